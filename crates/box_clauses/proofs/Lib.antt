pub mod Finding
pub mod Cutting
pub mod Pinning
pub mod Knowing
