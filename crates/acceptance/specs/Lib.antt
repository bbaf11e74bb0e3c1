-- Requests, the bound of their operation, and what they are refused for.
pub mod Requests
pub mod Bounds
pub mod Refusals
-- What is sent for it.
pub mod Keys
pub mod Forwarding
pub mod AskAlike
pub mod Texts
pub mod PassedOn
