-- Where a byte of a text stands, and how that is shown.
pub mod Places
pub mod Marks
