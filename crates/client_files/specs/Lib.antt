-- The meaning: lines, each kind of line, files of clients, the first fault, and the texts.
pub mod Limits
pub mod Lines
pub mod Headings
pub mod ClientLines
pub mod ClientFiles
pub mod Faults
pub mod FaultTexts
pub mod Written
pub mod Readings
-- What serves proofs: how far the lines are read.
pub mod Fronts
