pub mod Sides
pub mod Work
