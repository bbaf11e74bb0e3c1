pub mod Growing
pub mod Taking
pub mod Fronts
pub mod Dialling
pub mod Rises
pub mod Readings
