-- What serving over a journal comes to.
pub mod Keeping
-- What serves proofs.
pub mod OverJournals
pub mod PassedOn
