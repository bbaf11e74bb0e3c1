-- The parts that documents and schemas share (GraphQL October 2021, 2.6, 2.9, 2.11 and 2.12).

-- The meaning: values, types, arguments, directives and kinds of operations with the symbols that they are written with,
-- what the trees of the program stand for, and what the calls that read them answer.
pub mod Values
pub mod TypeReferences
pub mod Arguments
pub mod OperationKinds
pub mod Trees
pub mod Ints
pub mod Answers
