pub mod SetSamples
pub mod TwoSides
pub mod Lives
