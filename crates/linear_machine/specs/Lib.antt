pub mod Sums
pub mod Steps
pub mod Body
pub mod Comparisons
