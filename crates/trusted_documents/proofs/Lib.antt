-- The entries of lists; the bodies that stand for a client's; and that each body is read.
pub mod Entries
pub mod FilledObjects
pub mod StandingBodies
pub mod ReadBodies
