-- What values and literals come to.
pub mod Loads
-- What inputs come to together, and how it adds up.
pub mod Sums
pub mod LoadSums
-- What the program's forms stand for, and what is kept.
pub mod KnownInputs
-- What is found while a literal is gone through.
pub mod Walks
-- When what is written in two places comes to the same.
pub mod Comparing
