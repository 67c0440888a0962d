pub mod Words
pub mod Steps
pub mod Meanings
pub mod Work
pub mod Memo
