pub mod Histories
pub mod Endings
pub mod CappedAccounts
