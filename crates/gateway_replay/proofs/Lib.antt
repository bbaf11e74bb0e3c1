pub mod OpenGrants
pub mod TakenSteps
pub mod Places
pub mod MoreLines
pub mod MoreTurns
pub mod LeftOpen
pub mod FreshAccounts
