-- What the cells of a table say, and which lines it has.
pub mod Cells
pub mod Tables
