-- The meaning: connections that a worker served, how passes are split off and joined, and what all workers did.
pub mod Tours
pub mod Joins
pub mod Workers
pub mod Whole
-- What is passed on.
pub mod Decisions
pub mod PassedOn
