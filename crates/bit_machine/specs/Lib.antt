pub mod Rules
pub mod Built
pub mod Comparisons
