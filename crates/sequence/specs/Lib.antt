pub mod Scan
pub mod Read
pub mod Laws
pub mod Clean
pub mod AgreeLaws
pub mod Agree
pub mod Limits
