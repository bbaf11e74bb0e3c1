mod Naming
mod Bounds
mod Cases
pub mod Fronts
