use Rattle.plan_model.proofs.OnePlan.{same_plan}
use Rattle.plan_model.proofs.laws.one_plan.Goals as goal

pub returns : goal.returns
returns c = same_plan
