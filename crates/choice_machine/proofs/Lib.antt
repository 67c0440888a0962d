pub mod Lists
pub mod Joints
pub mod Layers
pub mod Losses
pub mod Outcomes
pub mod Keys
