pub mod Found
pub mod FirstRefusals
pub mod Grown
