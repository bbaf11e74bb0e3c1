pub mod Fields
pub mod Heads
pub mod Passed
pub mod Asks
pub mod Service
pub mod ReplyBytes
