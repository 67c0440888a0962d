pub mod Parts
pub mod Domains
