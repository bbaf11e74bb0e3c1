-- Things that are found by their names, seen as what they stand for.
use Rattle.std.proofs.Common.{◌≡◌, ℕ, List, map, Option, None, Some, bytes_eq, refl, ap, ◌∙◌}
use Rattle.std.specs.Prelude.{is_some, option_map, option_copied}
use Rattle.std.specs.Borrow.{Bor}
use Rattle.gql_base.specs.declared.parts.trees.Value.{Value}
use Rattle.gql_base.specs.names.Names.{first_of_name}
use Rattle.input_values.specs.defaults.Filling.{literal_seen}
use Rattle.input_values.specs.inputs.Definitions.{input_data}
use Rattle.input_values.specs.declared.inputs.definition.InputDef.{InputDef}
use Rattle.schema_model.specs.SchemaData.{input_name}
use Rattle.schema_model.specs.Entries.{maybe_input}
use Rattle.schema_rules.proofs.Namings.{find_view}
pub use Rattle.schema_rules.proofs.Namings.{any_view, position_view, seen_some, seen_none}

pub is_written : (o : Option (Bor Value)) → is_some o ≡ is_some (literal_seen o)
is_written None = refl
is_written (Some v) = refl

input_seen : (r : Option (Bor InputDef)) → maybe_input r ≡ option_map input_data (option_copied r)
input_seen None = refl
input_seen (Some i) = refl

pub first_input : (items : List InputDef) (name : List ℕ) (r : Option (Bor InputDef)) → option_copied r ≡ first_of_name (λ (i : InputDef). i.name) items name → maybe_input r ≡ first_of_name input_name (map input_data items) name
first_input items name r e = input_seen r ∙ (ap (option_map input_data) e ∙ find_view input_data (λ i. bytes_eq i.name name) items)
