pub mod Bits
pub mod Words
pub mod PlaceLists
pub mod Decoding
