-- Coerced values: their trees, and how many nodes these have.
use Rattle.std.specs.Prelude.{ℕ, suc, ◌+◌, ℤ, Bool, true, false, List, [], ◌∷◌}
use Rattle.input_values.specs.declared.values.coerced.Coerced.{Coerced}
use Rattle.input_values.specs.declared.values.coerced.CoercedField.{CoercedField}
use Rattle.input_values.specs.declared.values.coerced.Coerced.TheOpen.{Coerced-F, CoercedField-F}
use Rattle.input_values.specs.declared.values.coerced.Coerced.TheFolds.{fold-Coerced, fold-CoercedField}

mutual
  pub data CoercedTree : Type 0 where
    coerced_null : CoercedTree
    coerced_integer : ℤ → CoercedTree
    -- a float, by the 64 bits of its double
    coerced_float : (bits : ℕ) → CoercedTree
    coerced_string : List ℕ → CoercedTree
    coerced_boolean : Bool → CoercedTree
    -- a value of an enum, by its name
    coerced_enum : List ℕ → CoercedTree
    coerced_list : CoercedTrees → CoercedTree
    coerced_object : CoercedFields → CoercedTree

  pub data CoercedTrees : Type 0 where
    no_coerced : CoercedTrees
    coerced_then : CoercedTree → CoercedTrees → CoercedTrees

  pub data CoercedFields : Type 0 where
    no_coerced_field : CoercedFields
    coerced_field_then : (name : List ℕ) → CoercedTree → CoercedFields → CoercedFields

abbrev pub is_coerced_null : CoercedTree → Bool
is_coerced_null coerced_null = true
is_coerced_null (coerced_integer z) = false
is_coerced_null (coerced_float bits) = false
is_coerced_null (coerced_string s) = false
is_coerced_null (coerced_boolean b) = false
is_coerced_null (coerced_enum name) = false
is_coerced_null (coerced_list items) = false
is_coerced_null (coerced_object fields) = false

-- Each null, leaf, list and object is a node.
abbrev mutual
  pub nodes : CoercedTree → ℕ
  nodes coerced_null = 1
  nodes (coerced_integer z) = 1
  nodes (coerced_float bits) = 1
  nodes (coerced_string s) = 1
  nodes (coerced_boolean b) = 1
  nodes (coerced_enum name) = 1
  nodes (coerced_list items) = suc (item_nodes items)
  nodes (coerced_object fields) = suc (field_nodes fields)

  pub item_nodes : CoercedTrees → ℕ
  item_nodes no_coerced = 0
  item_nodes (coerced_then t others) = nodes t + item_nodes others

  pub field_nodes : CoercedFields → ℕ
  field_nodes no_coerced_field = 0
  field_nodes (coerced_field_then name t others) = nodes t + field_nodes others

-- items one after another
abbrev pub trees_from : List CoercedTree → CoercedTrees
trees_from [] = no_coerced
trees_from (t ∷ ts) = coerced_then t (trees_from ts)

-- a field by its name and its value
abbrev pub NamedTree : Type 0
NamedTree = List ℕ × CoercedTree

abbrev pub named_trees_from : List NamedTree → CoercedFields
named_trees_from [] = no_coerced_field
named_trees_from (f ∷ fs) = coerced_field_then f.0 f.1 (named_trees_from fs)

abbrev pub coerced_step : Coerced-F CoercedTree NamedTree → CoercedTree
coerced_step Coerced-F.Null = coerced_null
coerced_step (Coerced-F.Int z) = coerced_integer z
coerced_step (Coerced-F.Float bits) = coerced_float bits
coerced_step (Coerced-F.Str s) = coerced_string s
coerced_step (Coerced-F.Bool b) = coerced_boolean b
coerced_step (Coerced-F.EnumName name) = coerced_enum name
coerced_step (Coerced-F.List items) = coerced_list (trees_from items.items)
coerced_step (Coerced-F.Object fields) = coerced_object (named_trees_from fields.items)
coerced_step (Coerced-F.Shared held) = held.value

abbrev pub coerced_field_step : CoercedField-F CoercedTree NamedTree → NamedTree
coerced_field_step f = (f.name, f.value)

-- the tree of a coerced value
unfoldable pub coerced_tree : Coerced → CoercedTree
coerced_tree = fold-Coerced CoercedTree NamedTree coerced_step coerced_field_step

-- the name of a field and the tree of its value
unfoldable pub named_tree : CoercedField → NamedTree
named_tree = fold-CoercedField CoercedTree NamedTree coerced_step coerced_field_step
