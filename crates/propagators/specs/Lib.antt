pub mod Compiled
pub mod Units
pub mod Relations
pub mod Work
