-- What surprises in a good schema, and what is told of it.
pub mod Surprises
