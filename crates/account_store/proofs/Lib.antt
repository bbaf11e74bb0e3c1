pub mod SameRows
pub mod CallSteps
pub mod Settlings
pub mod Recoveries
pub mod Numberings
