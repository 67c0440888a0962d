pub mod Block
pub mod RootLine
