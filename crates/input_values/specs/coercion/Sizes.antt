-- How large a literal is: the measure of the walk over it.
use Rattle.std.specs.Prelude.{ℕ, suc, ◌+◌, List, map}
use Rattle.gql_base.specs.declared.parts.trees.Value.{Value}
use Rattle.gql_base.specs.declared.parts.trees.Argument.{Argument}
use Rattle.gql_base.specs.parts.Trees.{value_tree, named_value}
use Rattle.gql_base.specs.parts.Values.{ValueTree, variable_value, integer_value, float_value, string_value, boolean_value, null_value, enum_value, list_value, object_value, ValueTrees, no_value, value_then, FieldTrees, no_field, field_then, values_from, fields_from}

-- the items of a list, and the fields of an object, as trees
abbrev pub items_written : List Value → ValueTrees
items_written items = values_from (map value_tree items)

abbrev pub fields_written : List Argument → FieldTrees
fields_written fields = fields_from (map named_value fields)

-- their names
abbrev pub names_written : List Argument → List (List ℕ)
names_written fields = map (λ f. f.name.text) fields

abbrev mutual
  pub tree_size : ValueTree → ℕ
  tree_size (variable_value name at) = 0
  tree_size (integer_value z) = 0
  tree_size (float_value digits) = 0
  tree_size (string_value s) = 0
  tree_size (boolean_value b) = 0
  tree_size null_value = 0
  tree_size (enum_value name at) = 0
  tree_size (list_value items) = suc (items_size items)
  tree_size (object_value fields) = suc (fields_size fields)

  pub items_size : ValueTrees → ℕ
  items_size no_value = 0
  items_size (value_then v others) = suc (tree_size v + items_size others)

  pub fields_size : FieldTrees → ℕ
  fields_size no_field = 0
  fields_size (field_then name at v others) = suc (tree_size v + fields_size others)
