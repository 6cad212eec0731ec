pub mod Scorer
pub mod Laws
pub mod Known
pub mod Refusals
pub mod Theorems
pub mod Examples
