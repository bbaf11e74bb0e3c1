-- The names and fields of what types ask.
use Rattle.std.proofs.Common.{◌≡◌, ℕ, suc, ◌||◌, bytes_eq, List, [], ◌∷◌, length, map, Option, None, Some, option_map, refl, ap, ◌∙◌}
use Rattle.std.specs.Prelude.{slice_get}
use Rattle.std.proofs.lemmas.Option.{slice_get-map}
use Rattle.gql_base.specs.names.Names.{has_name}
use Rattle.input_values.specs.declared.inputs.definition.InputDef.{InputDef}
use Rattle.input_values.specs.inputs.Definitions.{input_data}
use Rattle.input_values.specs.coercion.Forms.{is_field, field_form}
pub use Rattle.input_values.proofs.FillingSteps.Tables.{no_fields, no_names}

pub has_asked : (inputs : List InputDef) (name : List ℕ) → is_field (map field_form (map input_data inputs)) name ≡ has_name (λ i. i.name) inputs name
has_asked [] name = refl
has_asked (i ∷ inputs) name = ap (λ b. bytes_eq i.name name || b) (has_asked inputs name)

pub count_asked : (inputs : List InputDef) → length (map field_form (map input_data inputs)) ≡ length inputs
count_asked [] = refl
count_asked (i ∷ inputs) = ap suc (count_asked inputs)

pub at_asked : (inputs : List InputDef) (at : ℕ) → slice_get (map field_form (map input_data inputs)) at ≡ option_map (λ i. field_form (input_data i)) (slice_get inputs at)
at_asked inputs at = slice_get-map field_form (map input_data inputs) at ∙ (ap (option_map field_form) (slice_get-map input_data inputs at) ∙ twice (slice_get inputs at))
  where
    twice : (o : Option InputDef) → option_map field_form (option_map input_data o) ≡ option_map (λ i. field_form (input_data i)) o
    twice None = refl
    twice (Some i) = refl

pub ruleset names_of_forms = (no_names)

pub ruleset fields_of_forms = (no_fields, has_asked, count_asked, at_asked)
