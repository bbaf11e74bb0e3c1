-- Texts and the tokens that they are made of (GraphQL October 2021, 2.1 and 2.9).

-- The meaning: characters, numbers, strings and what they stand for, pieces of a text, its tokens and its first fault.
pub mod Characters
pub mod Numbers
pub mod Strings
pub mod BlockStrings
pub mod Blocks
pub mod Pieces
pub mod Closings
pub mod Faults
pub mod Tokens
pub mod Literals
pub mod StringTokens
pub mod Uses
-- What serves proofs: how strings are scanned, and how a piece is found at the front of a text.
pub mod Scans
pub mod Fronts
