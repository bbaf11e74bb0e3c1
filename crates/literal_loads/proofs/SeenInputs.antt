-- Inputs of the program, seen as what they stand for.
use Rattle.std.proofs.Common.{◌≡◌, ℕ, List, [], ◌∷◌, map, Option, None, Some, refl, ap, ◌∙◌}
use Rattle.std.specs.Prelude.{option_map, option_copied}
use Rattle.std.specs.Borrow.{Bor}
use Rattle.std.specs.Str.{bytes_eq}
use Rattle.gql_base.specs.names.Names.{are_distinct, first_of_name}
use Rattle.schema_rules.proofs.Namings.{find_view}
use Rattle.literal_loads.specs.declared.placed.PlacedInput.{PlacedInput}
use Rattle.literal_loads.specs.Sums.{placed_name}
use Rattle.literal_loads.specs.KnownInputs.{placed_seen, all_placed, maybe_placed}

abbrev pub own_name : PlacedInput → List ℕ
own_name p = p.input.now.name

placed_copied : (r : Option (Bor PlacedInput)) → maybe_placed r ≡ option_map placed_seen (option_copied r)
placed_copied None = refl
placed_copied (Some p) = refl

pub found_placed : (r : Option (Bor PlacedInput)) (inputs : List PlacedInput) (name : List ℕ) → option_copied r ≡ first_of_name own_name inputs name → maybe_placed r ≡ first_of_name placed_name (all_placed inputs) name
found_placed r inputs name found = placed_copied r ∙ (ap (option_map placed_seen) found ∙ find_view placed_seen (λ p. bytes_eq p.0.name name) inputs)

names_placed : (inputs : List PlacedInput) → map own_name inputs ≡ map placed_name (all_placed inputs)
names_placed [] = refl
names_placed (p ∷ inputs) = ap (λ l. p.input.now.name ∷ l) (names_placed inputs)

pub once_placed : (inputs : List PlacedInput) → are_distinct (map own_name inputs) ≡ are_distinct (map placed_name (all_placed inputs))
once_placed inputs = ap are_distinct (names_placed inputs)
