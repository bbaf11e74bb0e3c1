pub mod Slots
pub mod Records
pub mod Histories
pub mod Journals
pub mod Reading
pub mod Recovery
pub mod Reopening
