-- The meaning: what steps come to, what is told of them, and whole replays.
pub mod Turns
pub mod Lines
pub mod Replays
-- What serves proofs: how far a replay has come.
pub mod Stretches
pub mod PassedOn
