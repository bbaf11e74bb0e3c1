-- The meaning: lines, steps and their spelling, scripts, the first fault of a text that is none, and the texts of faults.
pub mod Limits
pub mod Lines
pub mod Steps
pub mod Scripts
pub mod Faults
pub mod Answers
pub mod FaultTexts
-- What serves proofs: the words of a line, and how far a script is read.
pub mod Words
pub mod Fronts
