use Rattle.plan_model.proofs.NodeCounts.{planned_counted}
use Rattle.plan_model.proofs.laws.nodes_are_counted.Goals as goal

pub returns : goal.returns
returns c = planned_counted
