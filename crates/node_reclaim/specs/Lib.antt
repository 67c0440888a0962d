pub mod Pool
pub mod Body
pub mod Growth
pub mod Holders
pub mod Reclaim
pub mod Marking
