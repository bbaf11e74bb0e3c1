pub mod DoorsBack
pub mod AddedUp
pub mod ClientAccounts
pub mod AllServed
pub mod PassedOn
