pub mod Files
pub mod OneAnswer
pub mod Lines
pub mod Searches
mod Asked
