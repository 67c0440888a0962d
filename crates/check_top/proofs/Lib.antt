pub mod LogsRead
pub mod Runs
pub mod OneVerdict
