pub mod Variables
pub mod Solutions
pub mod Covered
pub mod Starting
