pub mod Begins
pub mod Decimal
pub mod Kind
pub mod Pieces
pub mod Spelling
