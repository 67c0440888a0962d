pub mod Writer
pub mod Lines
pub mod Naming
pub mod Batches
