-- The meaning: documents and the symbols that they are written with, what the trees of the program stand for, where
-- definitions stand, what the reader answers, which operation is picked, printed documents, and those without offsets.
pub mod Documents
pub mod Trees
pub mod Places
pub mod DocumentAnswers
pub mod Picking
pub mod PrintedDocuments
pub mod PlacelessDocuments
-- What serves proofs: reading as a function.
pub mod DocumentReading
