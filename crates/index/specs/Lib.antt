pub mod Index
pub mod Find
pub mod Laws
pub mod First
pub mod FirstLaws
pub mod FirstNamed
pub mod Undescribed
