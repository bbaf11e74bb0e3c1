-- Lists and objects that are being built: what was coerced so far and what is left come to the whole.
use Rattle.std.specs.Prelude.{ℕ, suc, ◌+◌, ◌≤◌, ◌≡◌, List, [], ◌∷◌, map, Option, Some, None, Result, Ok, Err}
use Rattle.input_values.specs.declared.coercion.faults.CoercionFault.{CoercionFault}
use Rattle.input_values.specs.declared.values.coerced.Coerced.{Coerced}
use Rattle.input_values.specs.declared.values.coerced.CoercedField.{CoercedField}
use Rattle.input_values.specs.values.Coerced.{CoercedTree, coerced_tree, coerced_list, coerced_object, CoercedTrees, no_coerced, coerced_then, CoercedFields, no_coerced_field, coerced_field_then, NamedTree, named_tree, trees_from, named_trees_from, item_nodes, field_nodes}
use Rattle.input_values.specs.values.Counting.{counted}
use Rattle.input_values.specs.coercion.Answers.{Answer, mapped}
use Rattle.input_values.specs.coercion.Calls.{Tells, Coerces}

-- these in front of others
abbrev pub in_front : {T X : Type 0} → (T → X → X) → List T → X → X
in_front put [] rest = rest
in_front put (t ∷ ts) rest = put t (in_front put ts rest)

abbrev pub put_field : NamedTree → CoercedFields → CoercedFields
put_field f others = coerced_field_then f.0 f.1 others

-- what is there, as a list
abbrev pub one_item : Option CoercedTree → List CoercedTree
one_item None = []
one_item (Some t) = t ∷ []

abbrev pub one_field : List ℕ → Option CoercedTree → List NamedTree
one_field name None = []
one_field name (Some t) = (name, t) ∷ []

-- The list or object itself was counted before what is in it.
pub record ItemsLeft (limit : ℕ) (built : List CoercedTree) (before now : ℕ) (rest whole : Answer CoercedTrees) : Type 0 where
  pub done : List CoercedTree
  pub same : whole ≡ mapped (in_front coerced_then done) rest
  pub count : now ≡ counted limit (before + suc (item_nodes (trees_from done)))
  pub complete : now ≤ limit → built ≡ done

pub record FieldsLeft (limit : ℕ) (built : List NamedTree) (before now : ℕ) (rest whole : Answer CoercedFields) : Type 0 where
  pub done : List NamedTree
  pub same : whole ≡ mapped (in_front put_field done) rest
  pub count : now ≡ counted limit (before + suc (field_nodes (named_trees_from done)))
  pub complete : now ≤ limit → built ≡ done

-- Whatever was done before, one piece more leads from what was left to what is left, or tells the fault.
abbrev pub FieldsGoOn : ℕ → List NamedTree → List NamedTree → ℕ → ℕ → Answer CoercedFields → Answer CoercedFields → Result (Unit {0}) CoercionFault → Type 0
FieldsGoOn limit built more before now rest left (Ok u) = (start : ℕ) (whole : Answer CoercedFields) → FieldsLeft limit built start before rest whole → FieldsLeft limit more start now left whole
FieldsGoOn limit built more before now rest left (Err fault) = (start : ℕ) (whole : Answer CoercedFields) → FieldsLeft limit built start before rest whole → Tells fault whole

-- The same for the fields of an input object, where `rest` says what the fields from a place on come to.
abbrev pub PushesField : ℕ → List CoercedField → List CoercedField → ℕ → ℕ → (ℕ → Answer CoercedFields) → ℕ → Result (Unit {0}) CoercionFault → Type 0
PushesField limit built more before now rest at result = FieldsGoOn limit (map named_tree built) (map named_tree more) before now (rest at) (rest (at + 1)) result

-- Where nothing is left, the list or object that was built is the whole, as long as the count is within the limit.
abbrev pub EndsList : ℕ → List Coerced → ℕ → Option Coerced → Type 0
EndsList limit built count list = (before : ℕ) (whole : Answer CoercedTrees) → ItemsLeft limit (map coerced_tree built) before count (Ok no_coerced) whole → Coerces limit before count (Ok list) (mapped coerced_list whole)

abbrev pub EndsObject : ℕ → List CoercedField → ℕ → Option Coerced → Type 0
EndsObject limit built count object = (before : ℕ) (whole : Answer CoercedFields) → FieldsLeft limit (map named_tree built) before count (Ok no_coerced_field) whole → Coerces limit before count (Ok object) (mapped coerced_object whole)
