pub mod ReadFiles
pub mod WeighedSchemas
mod MisusedDirectives
mod Checks
pub mod RefusalLines
