pub mod Bounds
pub mod Work
