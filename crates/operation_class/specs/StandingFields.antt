-- Which fields stand at the root of an operation, however they are found (GraphQL October 2021, 6.3.2): those of its selections, and
-- those of each fragment that is spread there or in such a fragment.
use Rattle.std.specs.Prelude.{◌≡◌, ◌⊎◌, ℕ, zero, suc, List, [], ◌∷◌, slice_get, Some}
use Rattle.gql_base.specs.names.Names.{place_of_name}
use Rattle.gql_base.specs.ways.Reading.{Identifier}
use Rattle.document_rules.specs.Parts.{FragmentData, fragment_name}
use Rattle.operation_class.specs.RootParts.{RootPart, field_part, spread_part}
use Rattle.operation_class.specs.RootFields.{parts_in}

-- it is one of the list
abbrev pub IsAmong : {X : Type 0} → X → List X → Type 0
IsAmong x [] = ⊥
IsAmong x (y ∷ ys) = (x ≡ y) ⊎ IsAmong x ys

module _ (fragments : List FragmentData) where
  -- The field stands among the parts after so many spreads, of which each is followed to the first fragment of its name.
  abbrev pub StandsAfter : ℕ → List RootPart → Identifier → Type 0
  StandsAfter zero parts name = IsAmong (field_part name) parts
  StandsAfter (suc spreads) parts name =
      (fragment : List ℕ) × IsAmong (spread_part fragment) parts × (number : ℕ) × (place_of_name fragment_name fragments fragment ≡ Some number) × StandsAfter spreads (parts_in (slice_get fragments number)) name

  abbrev pub Stands : List RootPart → Identifier → Type 0
  Stands parts name = (spreads : ℕ) × StandsAfter spreads parts name
