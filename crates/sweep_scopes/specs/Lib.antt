pub mod Bits
pub mod Meetings
