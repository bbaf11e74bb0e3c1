-- Null, lists and variables at the places where they are given (GraphQL October 2021, 3.11 and 3.12).
use Rattle.std.specs.Prelude.{ℕ, Bool, not, ◌&&◌, Ok, if◌then◌else◌}
use Rattle.input_values.specs.values.Coerced.{CoercedTree, coerced_list, CoercedTrees, no_coerced, coerced_then, is_coerced_null}
use Rattle.input_values.specs.inputs.Shapes.{ShapeTree, named_shape, list_shape}
use Rattle.input_values.specs.coercion.Answers.{Answer, refused, mapped}

-- null, and what stands for it where it is allowed
abbrev pub null_at : {A : Type 0} → A → Bool → Answer A
null_at x nullable = if nullable then Ok x else refused

-- the value of a variable is taken as it is
abbrev pub variable_at : CoercedTree → Bool → Answer CoercedTree
variable_at t nullable = if is_coerced_null t && not nullable then refused else Ok t

abbrev pub list_of_one : CoercedTree → CoercedTree
list_of_one t = coerced_list (coerced_then t no_coerced)

-- A value that is no list stands at a list for the list of this one item. `named` coerces it at a named type.
abbrev pub single_at : (ℕ → Answer CoercedTree) → ShapeTree → Answer CoercedTree
single_at named (named_shape of nullable) = named of
single_at named (list_shape item nullable) = mapped list_of_one (single_at named item)

-- A list is coerced item by item at a list, and as one value at a named type.
abbrev pub list_at : (ShapeTree → Answer CoercedTrees) → (ℕ → Answer CoercedTree) → ShapeTree → Answer CoercedTree
list_at items named (named_shape of nullable) = named of
list_at items named (list_shape item nullable) = mapped coerced_list (items item)

-- the named type inside all lists
abbrev pub innermost : ShapeTree → ℕ
innermost (named_shape of nullable) = of
innermost (list_shape item nullable) = innermost item
