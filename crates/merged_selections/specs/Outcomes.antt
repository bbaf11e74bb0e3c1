-- What is left of the limit after nodes are visited, one after another, or the first fault among them.
use Rattle.std.specs.Prelude.{◌≡◌, ℕ, zero, suc, List, [], ◌∷◌, flat_map, Option, None, Some}
use Rattle.plan_model.specs.Visits.{NodeFault, Visit, PlacedFault, PlanAnswer, planned_well, faulty, too_large}
use Rattle.merged_selections.specs.declared.stop.Stop.{Stop}
use Rattle.merged_selections.specs.declared.stop.Stop.TheVariants.{At, TooLarge, Memory}
use Rattle.merged_selections.specs.Faults.{step_text}
use Rattle.merged_selections.specs.NodeTests.{fault_told}

pub data Outcome : Type 0 where
  -- none is at fault, and so many nodes may still be visited
  has_left : (left : ℕ) → Outcome
  at_fault : PlacedFault → Outcome
  -- there are more nodes than may be visited
  used_up : Outcome

abbrev pub unless_fault : List (List ℕ) → Option NodeFault → Outcome → Outcome
unless_fault path None o = o
unless_fault path (Some fault) o = at_fault (path, fault)

unfoldable pub outcome : ℕ → List Visit → Outcome
outcome left [] = has_left left
outcome zero (v ∷ vs) = used_up
outcome (suc left) (v ∷ vs) = unless_fault v.path v.fault (outcome left vs)

abbrev pub answer_from : Outcome → PlanAnswer
answer_from (has_left left) = planned_well
answer_from (at_fault fault) = faulty fault
answer_from used_up = too_large

-- the same, seen from above a node
abbrev pub under_outcome : List ℕ → Outcome → Outcome
under_outcome key (has_left left) = has_left left
under_outcome key (at_fault fault) = at_fault (key ∷ fault.0, fault.1)
under_outcome key used_up = used_up

-- ---- why building stops

abbrev pub IsStopAt : List ℕ → Option NodeFault → Outcome → Type 0
IsStopAt text (Some fault) o = (path : List (List ℕ)) × (text ≡ flat_map step_text path) × (o ≡ at_fault (path, fault))
IsStopAt text None o = Unit {0}

abbrev pub IsStop : Stop → Outcome → Type 0
IsStop (At path why) o = IsStopAt path (fault_told why) o
IsStop TooLarge o = o ≡ used_up
IsStop Memory o = Unit {0}
