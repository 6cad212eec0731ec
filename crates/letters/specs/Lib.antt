pub mod Letters
pub mod Sets
pub mod Laws
pub mod Table
pub mod Complements
