-- Which fragments selections reach (GraphQL October 2021, 2.8): those that are spread in them, and those that are spread in a
-- fragment that they reach.
use Rattle.std.specs.Prelude.{◌≡◌, ◌<◌, ◌⊎◌, ℕ, true, List, [], ◌∷◌, slice_get, Option, None, Some}
use Rattle.gql_base.specs.names.Names.{place_of_name}
use Rattle.document_reader.specs.Documents.{SelectionTrees}
use Rattle.document_rules.specs.Parts.{FragmentData, fragment_name}
use Rattle.document_rules.specs.Met.{Met, spreads_in, inside_at}
use Rattle.document_rules.specs.Rules.{is_inside}

-- the name is one of these
abbrev pub IsOneOf : List (List ℕ) → List ℕ → Type 0
IsOneOf [] name = ⊥
IsOneOf (other ∷ names) name = (other ≡ name) ⊎ IsOneOf names name

module _ (fragments : List FragmentData) where
  -- The fragment of this number is spread in the selections, by its name.
  abbrev pub IsSpreadIn : SelectionTrees → ℕ → Type 0
  IsSpreadIn below number = (name : List ℕ) × IsOneOf (spreads_in below) name × (place_of_name fragment_name fragments name ≡ Some number)

  -- One fragment spreads another.
  abbrev pub SpreadsOne : ℕ → ℕ → Type 0
  SpreadsOne from number = (f : FragmentData) × (slice_get fragments from ≡ Some f) × IsSpreadIn f.below number

  -- A fragment leads to another through these: it is that one, or it spreads the first of these, which leads to it.
  abbrev pub Leads : ℕ → List ℕ → ℕ → Type 0
  Leads from [] number = from ≡ number
  Leads from (next ∷ more) number = SpreadsOne from next × Leads next more number

  abbrev pub LeadsTo : ℕ → ℕ → Type 0
  LeadsTo from number = (through : List ℕ) × Leads from through number

  -- The selections reach the fragment.
  abbrev pub AreReaching : SelectionTrees → ℕ → Type 0
  AreReaching below number = (first : ℕ) × IsSpreadIn below first × LeadsTo first number

  -- Where a fragment was met within one at a place, it is spread in that one, which was met before it. Else it is spread in the selections.
  abbrev pub IsSpreadFrom : SelectionTrees → List Met → Option ℕ → ℕ → ℕ → Type 0
  IsSpreadFrom below met None at number = IsSpreadIn below number
  IsSpreadFrom below met (Some place) at number = (place < at) × ((m : Met) × (slice_get met place ≡ Some m) × SpreadsOne m.fragment number)

  -- So it is of all that were met.
  abbrev pub AreSpreadBefore : SelectionTrees → List Met → Type 0
  AreSpreadBefore below met = (at : ℕ) (m : Met) → slice_get met at ≡ Some m → IsSpreadFrom below met m.within at m.fragment

-- No fragment is met twice.
abbrev pub AreMetOnce : List Met → Type 0
AreMetOnce met = (i j : ℕ) (one other : Met) → i < j → slice_get met i ≡ Some one → slice_get met j ≡ Some other → one.fragment ≡ other.fragment → ⊥

-- The fragment of this number leads to the one that was met at this place. So where the latter spreads it, it comes back to itself.
abbrev pub LeadsBack : List FragmentData → List Met → ℕ → ℕ → Type 0
LeadsBack fragments met place number = (m : Met) → slice_get met place ≡ Some m → LeadsTo fragments number m.fragment

-- Where a fragment is told among those that the walk is inside of, at a place among what was met, it leads back to that place.
abbrev pub AreCycles : List FragmentData → List Met → Type 0
AreCycles fragments met = (place number : ℕ) → is_inside (inside_at met (Some place)) (Some number) ≡ true → LeadsBack fragments met place number
