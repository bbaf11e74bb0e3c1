pub mod Coerced
pub mod Counting
pub mod Floats
