-- What an operation is planned by, and what is collected, as definitions see them.
use Rattle.std.specs.Prelude.{ℕ, map, option_map, Option, Bool}
use Rattle.gql_base.specs.parts.Trees.{named_value}
use Rattle.document_reader.specs.declared.trees.Field.{Field}
use Rattle.document_reader.specs.Trees.{names_of, set_tree}
use Rattle.schema_model.specs.Numbers.{type_number}
use Rattle.schema_model.specs.SchemaData.{SchemaData}
use Rattle.schema_model.specs.SchemaViews.{schema_data}
use Rattle.cost_directives.specs.WeightViews.{weights_data}
use Rattle.variable_coercion.specs.Calls.{environment}
use Rattle.document_rules.specs.Sites.{name_of_field}
use Rattle.plan_model.specs.SelectedFields.{Setting, is_asked}
use Rattle.plan_model.specs.Collecting.{CollectedField}
pub use Rattle.distinct_selections.specs.Adding.{fragment_seen}
use Rattle.collected_fields.specs.declared.planning.Planning.{Planning}
use Rattle.collected_fields.specs.declared.collected.Collected.{Collected}

-- the setting of plans
abbrev pub setting_of_planning : Planning → Setting
setting_of_planning p = record { schema = schema_data p.schema.now; weights = weights_data p.weights.now; values = environment p.variables.now; fragments = map fragment_seen p.fragments.now }

-- a field that is written on a type
abbrev pub written_field : Option ℕ → Field → CollectedField
written_field parent f = record {
  parent = parent;
  key = (names_of f.alias f.name).0.0;
  call = record { name = (name_of_field (names_of f.alias f.name)).0; arguments = map named_value f.arguments.items };
  below = set_tree f.selections.items;
}

abbrev pub collected_field : Collected → CollectedField
collected_field c = written_field (option_map type_number c.parent) c.field.now

-- whether a field asks for the names of the types below it
abbrev pub asks_in : SchemaData → CollectedField → Bool
asks_in s f = is_asked s f.parent f.call
