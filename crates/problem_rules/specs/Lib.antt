pub mod Branching
pub mod Parts
pub mod Readings
pub mod Posing
pub mod Posed
