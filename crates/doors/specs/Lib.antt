pub mod Visits
pub mod Starts
pub mod MemVisits
pub mod Kept
