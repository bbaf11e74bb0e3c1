-- The rewritten operation, the name that is added, and the body that is sent.
pub mod Rewriting
pub mod AddedNames
pub mod ReadJson
pub mod ForwardedBodies
-- What serves contracts.
pub mod Endings
pub mod Views
