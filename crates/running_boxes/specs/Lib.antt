pub mod Running
pub mod Nodes
pub mod Work
pub mod Laws
