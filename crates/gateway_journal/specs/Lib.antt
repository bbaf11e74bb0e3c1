-- What calls add to the history of a journal.
pub mod Kept
pub mod Served
pub mod DoorRuns
-- What serves proofs.
pub mod Composed
pub mod PassedOn
