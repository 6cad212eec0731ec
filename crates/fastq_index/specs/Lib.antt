pub mod Taken
pub mod File
pub mod Part
pub mod PartLaws
pub mod FileLaws
pub mod Joined
pub mod Text
pub mod TextLaws
