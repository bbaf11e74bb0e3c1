pub mod Drafts
pub mod Filling
pub mod Rounds
