pub mod Apps
pub mod Defaults
pub mod Words
