-- The meaning: what doors tell of a call, the tours of doors that were stopped, the accounts after them, and what serving comes to.
pub mod Telling
pub mod StoppedTours
pub mod Histories
pub mod Ends
-- What is passed on.
pub mod Decisions
pub mod PassedOn
