-- When work is counted.
pub mod Counted
