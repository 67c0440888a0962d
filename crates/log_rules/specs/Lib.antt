pub mod Tables
pub mod Numbers
pub mod Boxes
pub mod States
pub mod Rules
pub mod Logs
