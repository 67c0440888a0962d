pub mod Rules
pub mod Comparisons
pub mod SetPlaces
