pub mod values
pub mod inputs
pub mod coercion
pub mod defaults
