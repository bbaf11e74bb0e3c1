pub mod Images
pub mod Shutting
pub mod Beginnings
pub mod Calls
pub mod Recorded
