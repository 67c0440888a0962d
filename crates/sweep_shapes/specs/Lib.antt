pub mod Numbers
pub mod Readings
pub mod Slots
pub mod Trials
