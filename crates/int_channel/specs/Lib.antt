pub mod Choices
pub mod Forms
pub mod Machines
pub mod Shapes
pub mod SumTables
