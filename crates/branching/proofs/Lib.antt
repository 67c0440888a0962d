pub mod Spelling
pub mod Restricting
pub mod Choosing
pub mod Taking
pub mod Reciting
pub mod Options
