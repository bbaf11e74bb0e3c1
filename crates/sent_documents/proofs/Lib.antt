mod SendableParts
mod SendableSelections
mod SendableDocuments
mod SentTextLaws
pub mod SentOperations
