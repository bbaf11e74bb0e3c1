pub mod Statuses
pub mod Reading
pub mod Texts
pub mod Outcomes
pub mod SchemaTexts
pub mod Check
pub mod Known
pub mod PassedOn
