-- What the values of arguments cost (IBM GraphQL Cost Directives Specification, arguments and input fields): a leaf its
-- weight, a list the sum of its items, an input object its weight and the sum of its fields. Null and what is absent cost
-- nothing. Costs are in millionths.
use Rattle.std.specs.Prelude.{ℕ, ◌+◌, List, [], ◌∷◌, get_or, Option, None, Some}
use Rattle.cost_num.specs.declared.TheConstants.{UNIT}
use Rattle.gql_base.specs.names.Names.{first_of_name}
use Rattle.input_values.specs.inputs.Shapes.{ShapeTree, named_shape, list_shape}
use Rattle.input_values.specs.values.Coerced.{CoercedTree, CoercedTrees, CoercedFields, NamedTree, coerced_null, coerced_integer, coerced_float, coerced_string, coerced_boolean, coerced_enum, coerced_list, coerced_object, no_coerced, coerced_then, no_coerced_field, coerced_field_then}
use Rattle.schema_model.specs.Arguments.{ArgData}

-- an argument or a field of an input object, with the weight of its own `@cost`
pub record InputWeightData : Type 0 where
  pub name : List ℕ
  pub shape : ShapeTree
  pub own : Option ℕ

abbrev pub weighed_name : InputWeightData → List ℕ
weighed_name i = i.name

-- the fields of the input object types, at the numbers of types; None at the number of another type
abbrev pub ObjectInputs : Type 0
ObjectInputs = List (Option (List InputWeightData))

-- a leaf without a weight of its own costs nothing
abbrev pub leaf_cost : Option ℕ → ℕ
leaf_cost None = 0
leaf_cost (Some weight) = weight

-- an input object without a weight of its own weighs 1
abbrev pub object_cost : Option ℕ → ℕ
object_cost None = UNIT
object_cost (Some weight) = weight

-- ---- by the type of the place

-- a list: at a list type the sum of its items; elsewhere it is one leaf, in the value of a custom scalar
abbrev pub list_at : Option ℕ → (ShapeTree → ℕ) → ShapeTree → ℕ
list_at own items (list_shape item nullable) = items item
list_at own items (named_shape of nullable) = leaf_cost own

-- an object: where the type is an input object; elsewhere it is one leaf, in the value of a custom scalar
abbrev pub fields_at : Option ℕ → (List InputWeightData → ℕ) → Option (List InputWeightData) → ℕ
fields_at own fields None = leaf_cost own
fields_at own fields (Some inputs) = object_cost own + fields inputs

abbrev pub object_at : ObjectInputs → Option ℕ → (List InputWeightData → ℕ) → ShapeTree → ℕ
object_at objects own fields (named_shape of nullable) = fields_at own fields (get_or objects of None)
object_at objects own fields (list_shape item nullable) = leaf_cost own

-- a field by that of its name
abbrev pub cost_at_field : (ShapeTree → Option ℕ → ℕ) → Option InputWeightData → ℕ
cost_at_field value None = 0
cost_at_field value (Some input) = value input.shape input.own

-- ---- by the value

unfoldable mutual
  pub value_cost : ObjectInputs → ShapeTree → Option ℕ → CoercedTree → ℕ
  value_cost objects shape own coerced_null = 0
  value_cost objects shape own (coerced_integer z) = leaf_cost own
  value_cost objects shape own (coerced_float z) = leaf_cost own
  value_cost objects shape own (coerced_string s) = leaf_cost own
  value_cost objects shape own (coerced_boolean b) = leaf_cost own
  value_cost objects shape own (coerced_enum name) = leaf_cost own
  value_cost objects shape own (coerced_list items) = list_at own (λ item. items_cost objects item own items) shape
  value_cost objects shape own (coerced_object fields) = object_at objects own (λ inputs. fields_cost objects inputs fields) shape

  -- each item has the weight of the list
  pub items_cost : ObjectInputs → ShapeTree → Option ℕ → CoercedTrees → ℕ
  items_cost objects item own no_coerced = 0
  items_cost objects item own (coerced_then value others) = value_cost objects item own value + items_cost objects item own others

  pub fields_cost : ObjectInputs → List InputWeightData → CoercedFields → ℕ
  fields_cost objects inputs no_coerced_field = 0
  fields_cost objects inputs (coerced_field_then name value others) = cost_at_field (λ shape own. value_cost objects shape own value) (first_of_name weighed_name inputs name) + fields_cost objects inputs others

-- ---- all arguments

abbrev pub argument_cost : ObjectInputs → InputWeightData → Option CoercedTree → ℕ
argument_cost objects input None = 0
argument_cost objects input (Some value) = value_cost objects input.shape input.own value

abbrev pub front_value : List ArgData → Option CoercedTree
front_value [] = None
front_value (arg ∷ others) = arg.value

abbrev pub behind_front : List ArgData → List ArgData
behind_front [] = []
behind_front (arg ∷ others) = others

-- the arguments of a field, each with what stands at its place
abbrev pub arguments_cost : ObjectInputs → List InputWeightData → List ArgData → ℕ
arguments_cost objects [] args = 0
arguments_cost objects (input ∷ inputs) args = argument_cost objects input (front_value args) + arguments_cost objects inputs (behind_front args)

-- ---- parts of these, as the program has them

abbrev pub list_cost : ObjectInputs → ShapeTree → Option ℕ → CoercedTrees → ℕ
list_cost objects shape own items = list_at own (λ item. items_cost objects item own items) shape

abbrev pub record_cost : ObjectInputs → ShapeTree → Option ℕ → CoercedFields → ℕ
record_cost objects shape own fields = object_at objects own (λ inputs. fields_cost objects inputs fields) shape

abbrev pub field_cost : ObjectInputs → List InputWeightData → NamedTree → ℕ
field_cost objects inputs field = cost_at_field (λ shape own. value_cost objects shape own field.1) (first_of_name weighed_name inputs field.0)
