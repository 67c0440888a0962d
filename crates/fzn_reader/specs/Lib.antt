pub mod Text
pub mod Numbers
pub mod Pieces
pub mod Scan
pub mod Front
