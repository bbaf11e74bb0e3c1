pub mod Asked
pub mod OwnAnswers
pub mod Price
pub mod Places
pub mod Explain
pub mod Audit
pub mod ExplainSchema
pub mod Introspect
pub mod Worst
pub mod Forward
pub mod ReplyTexts
pub mod Meter
pub mod Steps
-- What is passed on.
pub mod Subjects
