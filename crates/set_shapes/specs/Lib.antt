pub mod Operands
pub mod Tests
pub mod Orders
pub mod ProgressEquality
pub mod Tables
pub mod Shapes
pub mod Passing
pub mod Elements
