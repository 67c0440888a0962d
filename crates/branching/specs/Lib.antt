pub mod Decisions
pub mod Work
