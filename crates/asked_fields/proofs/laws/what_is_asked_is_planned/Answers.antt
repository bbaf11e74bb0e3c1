use Rattle.std.proofs.Common.{sym, subst}
use Rattle.response_model.specs.Plan.{Plan}
use Rattle.plan_model.specs.Visits.{level_limit}
use Rattle.plan_model.specs.Operations.{root_place, root_position, IsOperationPlan}
use Rattle.asked_fields.proofs.Alike.{asked_planned}
use Rattle.asked_fields.proofs.laws.what_is_asked_is_planned.Goals as goal

pub returns-clause-planned : goal.returns-clause-planned
returns-clause-planned c = λ e levels place p single one. asked_planned e single levels place p one

pub returns-clause-operation : goal.returns-clause-operation
returns-clause-operation c = λ e root o single well.
    subst (λ (plan : Plan). IsOperationPlan e root o plan) (sym (asked_planned e single level_limit (root_place root) (root_position root o) tt)) (c.operations_planned_well.ensures.plan e root o well)
