pub mod Tables
pub mod Comparisons
pub mod Values
pub mod Laws
pub mod Marked
