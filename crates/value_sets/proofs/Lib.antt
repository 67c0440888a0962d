pub mod SetWords
pub mod Deciding
pub mod Staying
