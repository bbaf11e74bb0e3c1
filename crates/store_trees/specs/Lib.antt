pub mod Tables
pub mod Keeping
pub mod Shown
pub mod Making
pub mod Opening
pub mod Files
pub mod Clients
