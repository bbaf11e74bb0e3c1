-- The meaning: what rules look at, which fragments an operation reaches, the rules, what is answered, and ranks of fragments.
pub mod Parts
pub mod Met
pub mod Sites
pub mod VariablePlaces
pub mod Rules
pub mod Reached
pub mod Names
pub mod Checking
pub mod Ranks
-- What the program's forms stand for, and what serves proofs.
pub mod Views
pub mod LookedUp
pub mod Steps
