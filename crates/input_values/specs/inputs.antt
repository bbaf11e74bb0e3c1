pub mod Shapes
pub mod Definitions
