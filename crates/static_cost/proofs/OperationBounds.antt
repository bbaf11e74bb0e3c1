-- From the bound of a plan to that of its operation, and back.
use Rattle.std.proofs.Common.{◌≡◌, ℕ, ◌≤◌, ◌∙◌, true, None, subst, arith}
use Rattle.cost_num.specs.declared.Cost.{Cost}
use Rattle.cost_num.specs.Capped.{capped}
use Rattle.cost_num.specs.declared.TheConstants.{CAP}
use Rattle.document_reader.specs.declared.trees.Operation.{Operation}
use Rattle.response_model.specs.Plan.{single}
use Rattle.response_model.specs.Cost.{Part, types, fields, cost}
use Rattle.response_model.specs.Bound.{IsBound, greatest_cost}
use Rattle.response_model.specs.Filled.{filled}
use Rattle.response_model.proofs.Filling.{bound_is, attains_greatest, filled_is_filled}
use Rattle.plan_model.specs.SelectedFields.{Setting, holds}
use Rattle.plan_model.specs.Visits.{planned_well}
use Rattle.plan_model.specs.Responses.{IsResponseTo, response_cost}
use Rattle.plan_model.specs.Operations.{root_place, root_position, operation_answer, IsPlannedWell, planned_operation, IsOperationBound}
use Rattle.plan_model.specs.Sound.{IsOfSchema}
use Rattle.plan_model.proofs.PlannedWell.{is_operation_plan, operation_plan_sound, operation_bound}
use Rattle.plan_model.proofs.SameResponses.{fit_alike, keep_alike, costs_capped, bound_of_selections}
use Rattle.static_cost.specs.CostBound.{HasSoundPlan, IsWithin, AreOperationBounds, Attains, worst_response}

pub to_operation : (part : Part) (e : Setting) (root undeclared : ℕ) (o : Operation) (n : ℕ) → operation_answer e root o ≡ planned_well → IsOfSchema undeclared e → IsBound (holds e.schema) part (planned_operation e root o) n → n ≤ CAP → IsOperationBound e part root o n
to_operation part e root undeclared o n well of is within =
    let greatest = bound_is (holds e.schema) part (planned_operation e root o) (operation_plan_sound e root o well undeclared of) in
    let above = is.upper greatest.attained.0 greatest.attained.1 in
    let below = greatest.upper is.attained.0 is.attained.1 in
    let attained = greatest.attained.2 in
    let attained_too = is.attained.2 in
    (operation_bound e root o well undeclared of part n within).1 (omega arith)

pub from_operation : (part : Part) (e : Setting) (root undeclared : ℕ) (o : Operation) (n : ℕ) → operation_answer e root o ≡ planned_well → IsOfSchema undeclared e → IsOperationBound e part root o n → n ≤ CAP → IsBound (holds e.schema) part (planned_operation e root o) n
from_operation part e root undeclared o n well of is within =
    subst (λ (m : ℕ). IsBound (holds e.schema) part (planned_operation e root o) m) ((operation_bound e root o well undeclared of part n within).0 is)
    (bound_is (holds e.schema) part (planned_operation e root o) (operation_plan_sound e root o well undeclared of))

-- numbers within the cap that are equal up to just above it
same_within : (a b n : ℕ) → capped a ≡ capped b → a ≡ n → n ≤ CAP → b ≡ n
same_within a b n same is within = omega (arith, same, is, within)

attains_one : (part : Part) (e : Setting) (root : ℕ) (o : Operation) (n : ℕ) → IsPlannedWell e root o → HasSoundPlan e root o → IsOperationBound e part root o n → n ≤ CAP
    → IsResponseTo e (root_place root) (root_position root o) (worst_response e root o part) × (response_cost e part (root_place root) (root_position root o) (worst_response e root o part) ≡ n)
attains_one part e root o n well sound is within =
    let plan = planned_operation e root o in
    let place = root_place root in
    let p = root_position root o in
    let is_plan = is_operation_plan e root o well in
    let full = attains_greatest (holds e.schema) part plan (filled part plan) sound (filled_is_filled (holds e.schema) part plan sound) in
    let same : greatest_cost part plan ≡ n = (bound_of_selections e part place p plan n is_plan sound within).0 is in
    let fits = (fit_alike e (single true) place p plan (filled part plan) is_plan).1 full.0.0 in
    let keeps = (keep_alike e (single true) None place p plan (filled part plan) is_plan fits).1 full.0.1 in
    let costs = costs_capped e part (single true) place p plan (filled part plan) is_plan fits in
    ((fits, keeps), same_within (cost part plan (filled part plan)) (response_cost e part place p (filled part plan)) n costs (full.1 ∙ same) within)

-- the filled response attains the bound
pub attains : (e : Setting) (root : ℕ) (o : Operation) (bound : Cost) (part : Part) → IsPlannedWell e root o → HasSoundPlan e root o → AreOperationBounds e root o bound → IsWithin bound
    → Attains e root o part bound (worst_response e root o part)
attains e root o bound types well sound are within = attains_one types e root o bound.types well sound are.0 within.of_types
attains e root o bound fields well sound are within = attains_one fields e root o bound.fields well sound are.1 within.of_fields
