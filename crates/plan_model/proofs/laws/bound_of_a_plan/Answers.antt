use Rattle.plan_model.proofs.SameResponses.{bound_of_selections}
use Rattle.plan_model.proofs.laws.bound_of_a_plan.Goals as goal

pub returns : goal.returns
returns c = bound_of_selections
