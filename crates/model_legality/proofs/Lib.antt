pub mod Splits
pub mod MoreVariables
pub mod ReifiedNames
pub mod FittingArguments
pub mod ShownDimensions
pub mod LegalItems
pub mod KnownNames
pub mod LegalTree
