mod Deciding
mod Depending
mod Ends
mod Made
mod Membership
mod Scopes
mod WordsThere
pub mod ChoiceArguments
pub mod ChoiceArrays
pub mod ChoiceBooleans
pub mod ChoiceBranches
pub mod ChoiceElements
pub mod ChoiceFacts
pub mod ChoiceIntegers
pub mod ChoiceLoops
pub mod ChoiceMembers
pub mod ChoiceProducts
pub mod ChoiceSums
pub mod ChoiceTerms
pub mod SumLists
pub mod SumParts
pub mod SumRelations
pub mod SumTerms
pub mod TermNumbers
