pub mod Spelling
pub mod Orders
pub mod Membership
pub mod Closing
