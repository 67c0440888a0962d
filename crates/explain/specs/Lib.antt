pub mod Scans
pub mod Ways
pub mod Walks
pub mod Work
pub mod WalkLaws
pub mod Returning
pub mod DerivedLaws
