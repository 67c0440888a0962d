pub mod Undoing
pub mod Pinning
