-- How lines of cells are written.
pub mod Aligned
