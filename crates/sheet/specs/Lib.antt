pub mod Sheet
pub mod Laws
pub mod Turns
pub mod Bytes
pub mod Joins
