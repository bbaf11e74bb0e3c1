mod Picked
mod Stages
mod Costs
mod OneVerdict
pub mod ReadKeys
pub mod FoundMembers
mod Floatless
mod SentFloats
mod SentBodies
pub mod AlikeDocuments
pub mod AlikeOperations
mod AlikeRequests
mod AlikeBodies
mod HasVerdict
mod OneLines
