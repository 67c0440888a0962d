pub mod States
pub mod Outcomes
pub mod Answers
pub mod Nodes
pub mod Work
pub mod Laws
