pub mod Sets
pub mod Task
pub mod Steps
