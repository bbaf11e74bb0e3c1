-- The meaning: replies and their bytes, exchanges, when a response is due, connections, and what a stretch of serving did.
pub mod Replies
pub mod Exchanges
pub mod Measured
pub mod Connections
pub mod Serving
-- What is passed on.
pub mod Decisions
pub mod PassedOn
