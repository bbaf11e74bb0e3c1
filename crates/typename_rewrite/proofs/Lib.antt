pub mod WordSteps
pub mod NameSteps
pub mod AddingSteps
pub mod AliasSteps
pub mod BodySteps
pub mod KeysInOrder
pub mod ReadBodies
pub mod BodyTexts
