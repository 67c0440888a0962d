pub mod Rules
pub mod Reading
pub mod SeenEquality
pub mod Operands
pub mod Tables
pub mod Shapes
pub mod Relations
