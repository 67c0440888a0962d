pub mod Grammar
pub mod Places
pub mod ToCome
pub mod Faults
pub mod Reading
