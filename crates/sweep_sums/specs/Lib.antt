pub mod Forms
pub mod Reaching
pub mod Shapes
pub mod SumTables
pub mod Weights
