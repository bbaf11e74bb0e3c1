-- Things that are found by their names, seen as what they stand for.
use Rattle.std.proofs.Common.{◌≡◌, ℕ, List, [], ◌∷◌, map, Option, None, Some, refl, ap, ◌∙◌}
use Rattle.std.specs.Prelude.{option_map, option_copied}
use Rattle.std.specs.Borrow.{Bor}
use Rattle.std.specs.Str.{bytes_eq}
use Rattle.gql_base.specs.names.Names.{first_of_name}
use Rattle.schema_rules.proofs.Namings.{find_view}
use Rattle.cost_directives.specs.declared.entries.InputWeight.{InputWeight}
use Rattle.cost_directives.specs.ArgumentCosts.{weighed_name}
use Rattle.cost_directives.specs.WeightViews.{input_weight, maybe_input, type_inputs, type_weight}
use Rattle.cost_directives.specs.Weights.{inputs_in}
use Rattle.cost_directives.specs.declared.entries.TypeWeight.{TypeWeight}

input_seen : (r : Option (Bor InputWeight)) → maybe_input r ≡ option_map input_weight (option_copied r)
input_seen None = refl
input_seen (Some i) = refl

pub found_input : (r : Option (Bor InputWeight)) (inputs : List InputWeight) (name : List ℕ) → option_copied r ≡ first_of_name (λ i. i.name) inputs name → maybe_input r ≡ first_of_name weighed_name (map input_weight inputs) name
found_input r inputs name found = input_seen r ∙ (ap (option_map input_weight) found ∙ find_view input_weight (λ i. bytes_eq i.name name) inputs)

pub objects_seen : (types : List TypeWeight) → map type_inputs types ≡ map inputs_in (map type_weight types)
objects_seen [] = refl
objects_seen (t ∷ types) = ap (λ l. type_inputs t ∷ l) (objects_seen types)
