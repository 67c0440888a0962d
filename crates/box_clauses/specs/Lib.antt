pub mod Sides
pub mod Boxes
pub mod Stored
pub mod Index
pub mod Work
pub mod Laws
