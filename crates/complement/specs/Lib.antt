pub mod Complement
pub mod Kinds
pub mod Laws
pub mod KindLaws
pub mod Flips
pub mod Thymine
pub mod InverseLaws
pub mod Inverse
