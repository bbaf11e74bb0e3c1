-- Selections that are written alike.
pub mod Alike
-- Variables of the same values.
pub mod SameVariables
-- Coerced values that are compared.
pub mod ComparedValues
-- Selections that are put behind others, one after the other.
pub mod Adding
