-- Things that are found by their names.

-- The meaning: names that stand once.
pub mod Names
-- What serves proofs: what an index holds.
pub mod Indexes
