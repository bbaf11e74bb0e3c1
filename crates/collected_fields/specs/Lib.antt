-- What is collected, and the selection sets of a collector.
pub mod Views
pub mod Groups
pub mod Gathering
pub mod Alone
-- The steps of a walk over a selection set, and what they stand for.
pub mod Steps
pub mod Prepared
pub mod Drafts
pub mod Walks
-- Fields in whose place others stand, groups of them, and lists of selection sets.
pub mod Serving
pub mod Grouping
pub mod KeyHashes
pub mod Lists
pub mod Joining
-- For objects of which types there are fields.
pub mod Reached
pub mod Reaching
pub mod Kinds
