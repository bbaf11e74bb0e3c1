pub mod JsonSteps
pub mod ShapeSteps
pub mod InOrder
pub mod SomeArguments
pub mod Refused
pub mod Related
pub mod ValuesByName
