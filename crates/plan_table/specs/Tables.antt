-- The table of a program, and the trees that it holds.
use Rattle.std.specs.Prelude.{◌≡◌, ℕ, List, [], map, Option, None, Some}
use Rattle.input_values.specs.coercion.Literals.{no_variables}
use Rattle.response_model.specs.Plan.{Selected, Plan as PlanTree, leaf_plan, position, ObjectTypes, no_type, object_type}
use Rattle.schema_model.specs.declared.entries.FieldId.{FieldId}
use Rattle.schema_model.specs.SchemaData.{SchemaData}
use Rattle.schema_model.specs.SchemaViews.{schema_data}
use Rattle.cost_directives.specs.Weights.{WeightsData}
use Rattle.cost_directives.specs.WeightViews.{weights_data}
use Rattle.document_rules.specs.Sites.{Meaning, name_of_type, known_field}
use Rattle.plan_model.specs.SelectedFields.{Setting, Place, leaf_place, object_place, form_of, place_of, meaning_weight}
use Rattle.plan_model.specs.Plans.{type_weight}
use Rattle.plan_table.specs.declared.rows.NodeRow.{NodeRow}
use Rattle.plan_table.specs.declared.table.Plan.{Plan}
use Rattle.plan_table.specs.Rows.{PossibleType, Below, leaf_below, objects_below, Row, rows_of_types}

-- What a field is by itself needs neither variables nor fragments.
abbrev pub setting_without_values : SchemaData → WeightsData → Setting
setting_without_values s w = record { schema = s; weights = w; values = no_variables; fragments = [] }

abbrev pub meaning_of : Option FieldId → Meaning
meaning_of None = name_of_type
meaning_of (Some field) = known_field field.number

abbrev pub weighed : Setting → ℕ → PossibleType
weighed e T = record { number = T; weight = type_weight e T }

abbrev pub below_at : Setting → Place → Below
below_at e (leaf_place type weight fill) = leaf_below type weight fill
below_at e (object_place Ts) = objects_below (map (weighed e) Ts)

abbrev pub selected_of : Setting → NodeRow → Selected
selected_of e n = record {
  key = n.key;
  field = n.name;
  asked = n.asked;
  form = form_of e.schema (meaning_of n.field);
  size = n.size;
  weight = meaning_weight e (meaning_of n.field);
  arguments = n.arguments;
}

-- The row that a row of the program stands for: what it doesn't say itself is looked up.
unfoldable pub row_of : Setting → NodeRow → Row
row_of e n = record {
  depth = n.depth;
  type = n.on.number;
  weight = type_weight e n.on.number;
  first = n.first;
  selected = selected_of e n;
  below = below_at e (place_of e n.on.number (meaning_of n.field));
}

-- ---- of a table

abbrev pub setting_in : Plan → Setting
setting_in p = setting_without_values (schema_data p.schema.now) (weights_data p.weights.now)

abbrev pub row_in : Plan → NodeRow → Row
row_in p n = row_of (setting_in p) n

abbrev pub table_rows : Plan → List Row
table_rows p = map (row_in p) p.rows.items

-- One type alone is possible, with this weight.
abbrev pub IsAlone : ℕ → ℕ → ObjectTypes → Type 0
IsAlone T weight no_type = ⊥
IsAlone T weight (object_type U w nodes no_type) = (U ≡ T) × (w ≡ weight)
IsAlone T weight (object_type U w nodes (object_type V v ns others)) = ⊥

-- The table holds a tree: objects of the root type stand at its root, and its rows are those of the table.
abbrev pub HasRows : Plan → PlanTree → Type 0
HasRows p (leaf_plan type weight fill) = ⊥
HasRows p (position possible) = IsAlone p.root.number (type_weight (setting_in p) p.root.number) possible × (table_rows p ≡ rows_of_types 1 possible)
