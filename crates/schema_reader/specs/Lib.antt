-- What schema texts are, how they are read, and what the reader answers.
pub mod Schemas
pub mod SchemaReading
pub mod Trees
pub mod SchemaAnswers
