-- Where the things of a schema text are defined.
pub mod Sites
pub mod Views
