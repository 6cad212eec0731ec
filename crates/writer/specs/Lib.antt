pub mod Text
pub mod Laws
pub mod Contents
pub mod Reads
pub mod Answers
pub mod Examples
pub mod Pieces
