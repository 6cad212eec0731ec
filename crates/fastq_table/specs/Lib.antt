pub mod Rows
pub mod RowLaws
pub mod Fill
