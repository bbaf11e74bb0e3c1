-- The meaning: hashes, lists, the extension by which a body names a document, what a body comes to by a list, the body that
-- a document stands for, the request of a body, and the texts of faults. Last, what calls answer.
pub mod Hashes
pub mod DocumentLists
pub mod PersistedQueries
pub mod Listings
pub mod FilledBodies
pub mod Expansions
pub mod Requests
pub mod FaultTexts
pub mod Answers
