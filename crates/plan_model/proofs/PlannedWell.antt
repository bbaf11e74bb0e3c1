-- An operation that is planned well has a sound plan, and the bound of that plan.
use Rattle.std.proofs.Common.{◌≡◌, ◌↔◌, ℕ, ◌≤◌, List, take, length, ltb, take_all, ltb-false, Bool, true, false, Option, Some, None, refl, sym, ap, ◌∙◌}
use Rattle.document_reader.specs.declared.trees.Operation.{Operation}
use Rattle.cost_num.specs.declared.TheConstants.{CAP}
use Rattle.response_model.specs.Cost.{Part}
use Rattle.response_model.specs.Bound.{IsSound, greatest_cost}
use Rattle.schema_rules.specs.First.{first_of}
use Rattle.plan_model.specs.SelectedFields.{Setting, holds}
use Rattle.plan_model.specs.Visits.{Visit, fault_at, PlacedFault, planned_well, answer_by, answer_of, level_limit, node_limit}
use Rattle.plan_model.specs.Sound.{IsOfSchema}
use Rattle.plan_model.specs.Operations.{root_position, root_place, nodes_visited, operation_answer, planned_operation, IsOperationPlan, IsOperationBound}
use Rattle.plan_model.proofs.FaultlessPlans.{NoFault, faultless_is_planned}
use Rattle.plan_model.proofs.SoundPlans.{faultless_is_sound}
use Rattle.plan_model.proofs.SoundSettings.{setting_sound}
use Rattle.plan_model.proofs.SameResponses.{bound_of_selections}

none_there : (larger : Bool) (o : Option PlacedFault) → answer_by larger o ≡ planned_well → o ≡ None
none_there larger (Some fault) h = absurd (cc)
none_there larger None h = refl

not_larger : (larger : Bool) (o : Option PlacedFault) → answer_by larger o ≡ planned_well → larger ≡ false
not_larger larger (Some fault) h = absurd (cc)
not_larger true None h = absurd (cc)
not_larger false None h = refl

pub within_limit : (limit : ℕ) (vs : List Visit) → answer_of limit vs ≡ planned_well → length vs ≤ limit
within_limit limit vs h = ltb-false limit (length vs) (not_larger (ltb limit (length vs)) (first_of fault_at (take limit vs)) h)

pub none_at_fault : (limit : ℕ) (vs : List Visit) → answer_of limit vs ≡ planned_well → NoFault vs
none_at_fault limit vs h =
    ap (λ (us : List Visit). first_of fault_at us) (sym (take_all limit vs (within_limit limit vs h))) ∙ none_there (ltb limit (length vs)) (first_of fault_at (take limit vs)) h

module _ (e : Setting) (root : ℕ) (o : Operation) (well : operation_answer e root o ≡ planned_well) where
  pub is_operation_plan : IsOperationPlan e root o (planned_operation e root o)
  is_operation_plan = faultless_is_planned e level_limit (root_place root) (root_position root o) (none_at_fault node_limit (nodes_visited e root o) well)

  module _ (undeclared : ℕ) (of_schema : IsOfSchema undeclared e) where
    pub operation_plan_sound : IsSound (holds e.schema) (planned_operation e root o)
    operation_plan_sound = faultless_is_sound e (setting_sound e undeclared of_schema) level_limit (root_place root) (root_position root o) (refl, tt) refl (none_at_fault node_limit (nodes_visited e root o) well)

    pub operation_bound : (part : Part) (n : ℕ) → n ≤ CAP → IsOperationBound e part root o n ↔ (greatest_cost part (planned_operation e root o) ≡ n)
    operation_bound part n within = bound_of_selections e part (root_place root) (root_position root o) (planned_operation e root o) n is_operation_plan operation_plan_sound within
