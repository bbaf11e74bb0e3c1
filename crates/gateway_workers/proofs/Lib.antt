pub mod Lists
pub mod Turns
pub mod Sums
pub mod Splits
pub mod Returns
pub mod AllTours
pub mod FreshAccounts
pub mod PassedOn
