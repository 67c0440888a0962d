mod Bits
mod Sweeping
pub mod Own
mod PlaceLists
