pub mod OpenedTrees
pub mod Namings
pub mod Keys
pub mod FirstFaults
