-- What is looked up of a row.
use Rattle.std.specs.Prelude.{ℕ, map, Bool, true, false}
use Rattle.response_model.specs.Plan.{Form, single, listed}
use Rattle.document_rules.specs.Sites.{name_of_type}
use Rattle.schema_model.specs.Numbers.{type_number}
use Rattle.plan_model.specs.SelectedFields.{Setting, place_of, leaf_of, object_place}
use Rattle.plan_table.specs.declared.lookups.Below.{Below}
use Rattle.plan_table.specs.declared.lookups.Below.TheVariants.{TypeName, Leaf, Objects}
use Rattle.plan_table.specs.Rows.{Below as RowBelow}
use Rattle.plan_table.specs.Tables.{below_at}

abbrev pub is_list : Form → Bool
is_list (single nullable) = false
is_list (listed nullable item_nullable) = true

-- in objects of the type T
abbrev pub below_seen : Setting → ℕ → Below → RowBelow
below_seen e T TypeName = below_at e (place_of e T name_of_type)
below_seen e T (Leaf of) = below_at e (leaf_of e of.number)
below_seen e T (Objects types) = below_at e (object_place (map type_number types.now))
