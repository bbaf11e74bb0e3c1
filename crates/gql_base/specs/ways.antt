-- The ways of which grammars over tokens are put together, whatever they describe.

-- The meaning: symbols, what a thing is written with, and the first fault of a text.
pub mod Symbols
pub mod Grammar
pub mod FirstFaults
pub mod TextFaults
-- What serves proofs and readers: reading as a function, what a call on tokens answers, and why it halts.
pub mod Reading
pub mod Sources
pub mod Halting
