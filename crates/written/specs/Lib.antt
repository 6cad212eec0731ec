pub mod ContentLines
pub mod Indexed
pub mod Scans
pub mod Files
pub mod Calls
