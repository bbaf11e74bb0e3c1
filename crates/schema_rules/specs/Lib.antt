-- The meaning: places, kinds of types, the things of a schema text in their order, what is first at fault, and the tests
-- in the order in which they are made.
pub mod Places
pub mod Kinds
pub mod Items
pub mod TypeNames
pub mod Roots
pub mod DirectiveUses
pub mod First
pub mod TooMany
pub mod Scopes
pub mod Repeated
pub mod Reserved
pub mod UnknownType
pub mod NoQuery
pub mod WrongKind
pub mod FloatScalar
pub mod NestedList
pub mod EmptyType
pub mod BadDirective
-- What serves proofs: what the program's forms of these stand for.
pub mod Views
