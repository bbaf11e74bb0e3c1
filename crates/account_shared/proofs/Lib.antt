pub mod Walks
pub mod Stretches
pub mod Lanes
pub mod Making
pub mod Splitting
pub mod Joining
pub mod Calls
pub mod Idle
