pub mod Parts
pub mod Cuts
pub mod Laws
pub mod Rising
pub mod Joining
pub mod Together
