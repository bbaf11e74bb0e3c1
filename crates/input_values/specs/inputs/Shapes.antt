-- Types as they stand at arguments and input fields.
use Rattle.std.specs.Prelude.{ℕ, Bool, true, false, List}
use Rattle.gql_base.specs.parts.TypeReferences.{TypeTree, named_type, list_type, non_null_type}
use Rattle.input_values.specs.declared.inputs.shape.Shape.{Shape}
use Rattle.input_values.specs.declared.inputs.shape.Shape.TheOpen.{Shape-F}
use Rattle.input_values.specs.declared.inputs.shape.Shape.TheFolds.{fold-Shape}
use Rattle.input_values.specs.declared.inputs.shape.ShapeLevel.{ShapeLevel}
use Rattle.input_values.specs.declared.inputs.shape.ShapeLevel.TheVariants.{Named, ListOf}

pub data ShapeTree : Type 0 where
  -- a type of the schema, by its number
  named_shape : (of : ℕ) (nullable : Bool) → ShapeTree
  list_shape : (item : ShapeTree) (nullable : Bool) → ShapeTree

-- whether null may stand there
abbrev pub is_nullable : ShapeTree → Bool
is_nullable (named_shape of nullable) = nullable
is_nullable (list_shape item nullable) = nullable

-- The shape of a type that is written, where types have these numbers by their names: without a `!` null may stand there
-- (GraphQL October 2021, 3.4.1, 3.11 and 3.12).
unfoldable pub shape_by : (List ℕ → ℕ) → Bool → TypeTree → ShapeTree
shape_by number nullable (named_type name at) = named_shape (number name) nullable
shape_by number nullable (list_type t) = list_shape (shape_by number true t) nullable
shape_by number nullable (non_null_type t) = shape_by number false t

abbrev pub shape_step : Shape-F ShapeTree → ShapeTree
shape_step (Shape-F.Named of nullable) = named_shape of.number nullable
shape_step (Shape-F.ListOf item nullable) = list_shape item.value nullable

-- the tree of a shape
unfoldable pub shape_tree : Shape → ShapeTree
shape_tree = fold-Shape ShapeTree shape_step

-- the tree of a shape that was opened by one level
abbrev pub level_tree : ShapeLevel → ShapeTree
level_tree (Named of nullable) = named_shape of.number nullable
level_tree (ListOf item nullable) = list_shape (shape_tree item.now) nullable
