mod Once
mod Reached
pub mod SumLists
pub mod SumParts
pub mod SumRelations
pub mod SumTerms
pub mod TermNumbers
mod Weighing
