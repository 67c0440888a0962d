pub mod Table
pub mod Part
pub mod Reach
pub mod Arena
pub mod Body
pub mod Hashing
