pub mod Domains
pub mod Steps
pub mod Parts
pub mod Rules
pub mod Work
pub mod Answers
