-- A list and an object beside the parts of another value.
use Rattle.std.proofs.Common.{◌≡◌, Bool, false, Option, None, Some, refl, sym, ap, ◌∙◌}
use Rattle.input_values.specs.values.Coerced.{CoercedTree, CoercedTrees, CoercedFields, coerced_null, coerced_integer, coerced_float, coerced_string, coerced_boolean, coerced_enum, coerced_list, coerced_object}
use Rattle.plan_model.specs.SameArguments.{same_value, same_items, same_fields}
use Rattle.distinct_selections.specs.ComparedValues.{items_in, fields_in}

abbrev same_in : CoercedTrees → Option CoercedTrees → Bool
same_in items None = false
same_in items (Some others) = same_items items others

abbrev same_by : CoercedFields → Option CoercedFields → Bool
same_by fields None = false
same_by fields (Some others) = same_fields fields others

list_beside : (items : CoercedTrees) (t : CoercedTree) → same_value (coerced_list items) t ≡ same_in items (items_in t)
unfolding same_value
list_beside items coerced_null = refl
list_beside items (coerced_integer z) = refl
list_beside items (coerced_float z) = refl
list_beside items (coerced_string s) = refl
list_beside items (coerced_boolean b) = refl
list_beside items (coerced_enum name) = refl
list_beside items (coerced_list others) = refl
list_beside items (coerced_object fields) = refl

object_beside : (fields : CoercedFields) (t : CoercedTree) → same_value (coerced_object fields) t ≡ same_by fields (fields_in t)
unfolding same_value
object_beside fields coerced_null = refl
object_beside fields (coerced_integer z) = refl
object_beside fields (coerced_float z) = refl
object_beside fields (coerced_string s) = refl
object_beside fields (coerced_boolean b) = refl
object_beside fields (coerced_enum name) = refl
object_beside fields (coerced_list items) = refl
object_beside fields (coerced_object others) = refl

pub list_same : (items others : CoercedTrees) (t : CoercedTree) → Some others ≡ items_in t → same_items items others ≡ same_value (coerced_list items) t
list_same items others t is = ap (same_in items) is ∙ sym (list_beside items t)

pub no_list : (items : CoercedTrees) (t : CoercedTree) → None ≡ items_in t → false ≡ same_value (coerced_list items) t
no_list items t is = ap (same_in items) is ∙ sym (list_beside items t)

pub object_same : (fields others : CoercedFields) (t : CoercedTree) → Some others ≡ fields_in t → same_fields fields others ≡ same_value (coerced_object fields) t
object_same fields others t is = ap (same_by fields) is ∙ sym (object_beside fields t)

pub no_object : (fields : CoercedFields) (t : CoercedTree) → None ≡ fields_in t → false ≡ same_value (coerced_object fields) t
no_object fields t is = ap (same_by fields) is ∙ sym (object_beside fields t)
