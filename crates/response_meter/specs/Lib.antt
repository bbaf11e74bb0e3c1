-- What is wrong with a reply, what it reads as, and what it costs.
pub mod Faults
pub mod FirstFault
pub mod Reply
pub mod Trees
pub mod Metered
pub mod Examples
-- In the service of proofs.
pub mod Nested
pub mod Types
pub mod Walks
