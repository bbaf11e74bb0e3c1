-- How far the walk through fragments is. These words serve its proof.
use Rattle.std.specs.Prelude.{◌≡◌, ◌<◌, get_or, ℕ, ◌+◌, Bool, true, false, List, [], ◌∷◌, ◌++◌, map, reverse, length, slice_get}
use Rattle.gql_base.specs.names.Names.{place_of_name}
use Rattle.document_rules.specs.declared.indexes.Defined.{Defined}
use Rattle.document_rules.specs.declared.met.Met.{Met as MetFragment}
use Rattle.document_rules.specs.declared.met.Spread.{Spread as SpreadToCome}
use Rattle.document_rules.specs.Parts.{FragmentData, fragment_name}
use Rattle.document_rules.specs.Met.{Met, Spread, spreads_in, spreads_of_data, is_met, come_to, look_at, walk}
use Rattle.document_rules.specs.Views.{defined_data, met_data, spread_data}

-- the spreads that are still to be looked at, whose next one stands last
abbrev pub to_come : List SpreadToCome → List Spread
to_come spreads = map spread_data (reverse spreads)

-- how many spreads the fragments hold that weren't seen
abbrev pub unseen_spreads : List Bool → List FragmentData → ℕ
unseen_spreads [] fragments = 0
unseen_spreads (seen ∷ others) [] = 0
unseen_spreads (true ∷ others) (f ∷ fragments) = unseen_spreads others fragments
unseen_spreads (false ∷ others) (f ∷ fragments) = length (spreads_in f.below) + unseen_spreads others fragments

-- There is a mark for each fragment, which says whether it was met.
pub record AreSeen (fragments : List FragmentData) (met : List MetFragment) (seen : List Bool) : Type 0 where
  pub each : length seen ≡ length fragments
  pub same : (number : ℕ) → number < length seen → get_or seen number false ≡ is_met (map met_data met) number

-- The walk comes to a fragment and then to these spreads, and goes on from there to those.
abbrev pub ComesTo : List FragmentData → List Met → Met → List Spread → List Met → List Spread → Type 0
ComesTo fragments met one others later_met later = (steps : ℕ) → come_to fragments (walk fragments steps) met one others ≡ walk fragments steps later_met later

-- The walk comes to a spread and then to others, and goes on from there to those.
abbrev pub LooksAt : List FragmentData → List Met → Spread → List Spread → List Met → List Spread → Type 0
LooksAt fragments met s others later_met later = (steps : ℕ) → look_at fragments (walk fragments steps) met s others (place_of_name fragment_name fragments s.name) ≡ walk fragments steps later_met later

-- As many spreads are to come or weren't seen in the end as at the start.
abbrev pub KeepsToCome : List Defined → List Bool → List SpreadToCome → List Bool → List SpreadToCome → Type 0
KeepsToCome defined seen spreads later_seen later = length later + unseen_spreads later_seen (map defined_data defined) ≡ length spreads + unseen_spreads seen (map defined_data defined)

-- The program comes to a fragment, or to a spread, and goes on from there as the walk does.
abbrev pub EntersOrPasses : List Defined → List MetFragment → MetFragment → List SpreadToCome → List MetFragment → List SpreadToCome → Type 0
EntersOrPasses defined met one spreads later_met later = ComesTo (map defined_data defined) (map met_data met) (met_data one) (to_come spreads) (map met_data later_met) (to_come later)

abbrev pub FollowsSpread : List Defined → List MetFragment → SpreadToCome → List SpreadToCome → List MetFragment → List SpreadToCome → Type 0
FollowsSpread defined met spread spreads later_met later = LooksAt (map defined_data defined) (map met_data met) (spread_data spread) (to_come spreads) (map met_data later_met) (to_come later)

-- A fragment's spreads come before the others.
abbrev pub SpreadsBefore : List Defined → ℕ → ℕ → List SpreadToCome → List SpreadToCome → Type 0
SpreadsBefore defined place number spreads later = to_come later ≡ spreads_of_data place (slice_get (map defined_data defined) number) ++ to_come spreads
