pub mod States
pub mod Words
pub mod Shapes
pub mod Body
pub mod Truths
