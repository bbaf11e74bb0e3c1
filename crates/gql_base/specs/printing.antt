-- The printed forms of trees, in which sense what is printed reads back, and how texts are shown within a line.

-- The meaning: printed symbols, printed trees, and trees that differ in the offsets of names alone.
pub mod Printing
pub mod PrintedTrees
pub mod PlacelessSymbols
pub mod Alike
pub mod PrintableSymbols
pub mod ReadingBack
pub mod OneLine
-- What serves proofs: what a printer holds.
pub mod Printers
