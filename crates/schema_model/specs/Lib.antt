-- The meaning: what a schema text drafts, what its types lack of their interfaces, the values of its defaults, the checked
-- schema and its look-ups, and what a build answers.
pub mod Drafts
pub mod Implementing
pub mod Defaults
pub mod BadDefault
pub mod SchemaData
pub mod Schemas
pub mod InputForms
pub mod Arguments
pub mod Faults
-- What serves proofs: what the program's forms of these stand for, and what its tables hold.
pub mod Numbers
pub mod Entries
pub mod SchemaViews
pub mod DraftViews
