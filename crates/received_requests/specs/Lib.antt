-- Selections that differ in the offsets of names alone.
pub mod Offsets
-- What is received where a request is sent on, and the responses to it.
pub mod Received
pub mod Bodies
pub mod Responses
