-- The fragments that an operation reaches (GraphQL October 2021, 2.8). The walk goes through selections in the order of the
-- text. Where it first comes to a spread of a fragment it enters that fragment, before it goes on.
use Rattle.std.specs.Prelude.{ℕ, zero, suc, ◌+◌, nat_eq, Bool, List, [], ◌∷◌, ◌++◌, map, length, slice_get, Option, None, Some, if◌then◌else◌}
use Rattle.std.specs.List.{list_any}
use Rattle.gql_base.specs.names.Names.{place_of_name}
use Rattle.document_reader.specs.declared.trees.Fragment.{Fragment}
use Rattle.document_reader.specs.Documents.{SelectionTree, field_selection, fragment_spread, inline_fragment, SelectionTrees, no_selection, selection_then}
use Rattle.document_rules.specs.Parts.{FragmentData, fragment_name}

-- the names of the fragments that are spread in selections, in the order of the text
unfoldable mutual
  pub spreads_in_one : SelectionTree → List (List ℕ)
  spreads_in_one (field_selection names arguments directives below) = spreads_in below
  spreads_in_one (fragment_spread name directives) = name.0 ∷ []
  spreads_in_one (inline_fragment on directives below) = spreads_in below

  pub spreads_in : SelectionTrees → List (List ℕ)
  spreads_in no_selection = []
  spreads_in (selection_then s others) = spreads_in_one s ++ spreads_in others

-- A fragment that was met, by its number, and the place among the fragments that were met of the one in which its spread
-- stands. It is none where that is the operation.
pub record Met : Type 0 where
  pub fragment : ℕ
  pub within : Option ℕ

-- A spread that the walk comes to: the name of a fragment, and where it stands.
pub record Spread : Type 0 where
  pub name : List ℕ
  pub within : Option ℕ

abbrev pub spread_within : Option ℕ → List ℕ → Spread
spread_within within name = record { name = name; within = within }

-- the spreads of selections that stand there
abbrev pub spreads_within : Option ℕ → SelectionTrees → List Spread
spreads_within within below = map (spread_within within) (spreads_in below)

abbrev pub spreads_within_one : Option ℕ → SelectionTree → List Spread
spreads_within_one within s = map (spread_within within) (spreads_in_one s)

abbrev pub met_number : Met → ℕ
met_number m = m.fragment

abbrev pub is_met : List Met → ℕ → Bool
is_met met number = list_any (nat_eq number) (map met_number met)

abbrev pub met_at : ℕ → Option ℕ → Met
met_at number within = record { fragment = number; within = within }

-- the spreads of a fragment that stands at a place among those that were met
abbrev pub spreads_of_data : ℕ → Option FragmentData → List Spread
spreads_of_data place None = []
spreads_of_data place (Some f) = spreads_within (Some place) f.below

module _ (fragments : List FragmentData) where
  -- The walk where it comes to a fragment. One that was met is passed over. Another one is met, and what is spread in it
  -- comes before what the walk had still to come to.
  abbrev pub come_to : (List Met → List Spread → List Met) → List Met → Met → List Spread → List Met
  come_to go met one others =
      if is_met met one.fragment then go met others
      else go (met ++ (one ∷ [])) (spreads_of_data (length met) (slice_get fragments one.fragment) ++ others)

  -- the walk where it comes to a spread, by the number of its fragment
  abbrev pub look_at : (List Met → List Spread → List Met) → List Met → Spread → List Spread → Option ℕ → List Met
  look_at go met s others None = go met others
  look_at go met s others (Some number) = come_to go met (met_at number s.within) others

  -- The walk from what was met and what it has still to come to, in at most so many steps.
  unfoldable pub walk : ℕ → List Met → List Spread → List Met
  walk zero met spreads = met
  walk (suc steps) met [] = met
  walk (suc steps) met (s ∷ others) = look_at (walk steps) met s others (place_of_name fragment_name fragments s.name)

-- how many spreads the fragments hold
abbrev pub spread_count : List FragmentData → ℕ
spread_count [] = 0
spread_count (f ∷ fragments) = length (spreads_in f.below) + spread_count fragments

-- The fragments that selections reach, in the order in which they are first met. The walk comes to each spread once at most,
-- so it ends within these steps.
abbrev pub reached : List FragmentData → SelectionTrees → List Met
reached fragments below = walk fragments (length (spreads_in below) + spread_count fragments) [] (spreads_within None below)

-- ---- what the walk is inside of

-- what was met at a place
abbrev pub met_there : List Met → Option ℕ → Option Met
met_there met None = None
met_there met (Some place) = slice_get met place

abbrev pub outward_from : (Option ℕ → List ℕ) → Option Met → List ℕ
outward_from others None = []
outward_from others (Some m) = m.fragment ∷ others m.within

-- the fragments from the one at a place outward, up to so many
unfoldable pub outward : ℕ → List Met → Option ℕ → List ℕ
outward zero met within = []
outward (suc n) met within = outward_from (outward n met) (met_there met within)

-- the numbers of the fragments that the walk is inside of, where it is in the fragment at a place
abbrev pub inside_at : List Met → Option ℕ → List ℕ
inside_at met within = outward (length met) met within

-- ---- fragments by their numbers

abbrev pub before_reached : Option Fragment → List Fragment → List Fragment
before_reached None others = others
before_reached (Some f) others = f ∷ others

-- the fragments of these numbers
abbrev pub fragments_met : List Fragment → List Met → List Fragment
fragments_met fragments [] = []
fragments_met fragments (m ∷ met) = before_reached (slice_get fragments m.fragment) (fragments_met fragments met)
