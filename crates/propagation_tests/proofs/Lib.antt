pub mod SetSamples
pub mod Filling
pub mod Queues
