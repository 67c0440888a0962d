pub mod Depths
pub mod Sides
