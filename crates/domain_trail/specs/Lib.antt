pub mod Trail
pub mod Body
