pub mod Moves
pub mod SoFar
pub mod Newlines
