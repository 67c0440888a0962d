pub mod KindSamples
pub mod Gathering
