pub mod Family
pub mod Problem
pub mod Box
pub mod Trail
pub mod Walk
pub mod State
pub mod Measure
