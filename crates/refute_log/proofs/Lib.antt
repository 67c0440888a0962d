pub mod Fronting
pub mod Standing
pub mod Numbering
pub mod Keeping
pub mod Validity
