pub mod CoercedTrees
pub mod ShapeTrees
pub mod Copied
pub mod Counted
pub mod CoercionLaws
pub mod CoercionSteps
pub mod FillingSteps
