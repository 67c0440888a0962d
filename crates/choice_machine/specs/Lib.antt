pub mod Choices
pub mod Building
