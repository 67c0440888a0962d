pub mod Words
pub mod Bounds
pub mod Residuals
pub mod Steps
pub mod Visits
pub mod Levels
