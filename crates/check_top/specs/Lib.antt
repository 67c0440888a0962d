pub mod Words
pub mod Files
pub mod Verdicts
pub mod Printed
pub mod Endings
pub mod Run
pub mod Steps
