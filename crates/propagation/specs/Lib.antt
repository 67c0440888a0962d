pub mod Quiet
pub mod Nodes
pub mod Work
pub mod Laws
