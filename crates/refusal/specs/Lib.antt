pub mod Numbers
pub mod Apart
