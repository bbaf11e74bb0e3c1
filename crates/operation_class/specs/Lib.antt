-- the meaning
pub mod RootParts
pub mod RootFields
pub mod StandingFields
pub mod Classes
pub mod Routes
pub mod ToldNames
-- what serves proofs
pub mod Steps
