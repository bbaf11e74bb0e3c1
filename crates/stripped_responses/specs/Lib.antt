-- Responses to a rewritten operation, without the names of types that were added.
pub mod Stripping
