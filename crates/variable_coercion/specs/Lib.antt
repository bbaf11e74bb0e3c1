-- The meaning: JSON as what is given, why a value is refused, what variables and arguments come to, and what calls answer.
pub mod Json
pub mod Refusals
pub mod Variables
pub mod Arguments
pub mod Relation
pub mod Calls
-- What serves proofs: objects of JSON under way, and how large JSON is.
pub mod Members
pub mod Sizes
