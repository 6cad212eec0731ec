pub mod Place
pub mod Description
pub mod EvenLines
pub mod Bases
pub mod Laws
pub mod BasePlaces
