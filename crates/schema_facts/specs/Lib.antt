-- the meaning
pub mod MetaText
pub mod Facts
pub mod FactsViews
pub mod Deprecations
pub mod Things
pub mod Table
-- what serves proofs
pub mod Making
pub mod Shown
pub mod Places
pub mod Turning
pub mod Possible
