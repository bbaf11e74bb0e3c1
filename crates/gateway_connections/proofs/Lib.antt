pub mod Growing
pub mod Going
pub mod WrittenReplies
pub mod OneExchange
pub mod GateLemmas
pub mod Responses
pub mod PassedOn
