pub mod Words
pub mod Limits
pub mod Order
pub mod Body
