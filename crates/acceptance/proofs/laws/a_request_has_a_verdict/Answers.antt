use Rattle.acceptance.proofs.HasVerdict.{has_verdict}
use Rattle.acceptance.proofs.laws.a_request_has_a_verdict.Goals as goal

pub returns : goal.returns
returns c = has_verdict record {
  is_plan = c.operations_planned_well.ensures.plan;
  sound = c.operations_planned_well.ensures.sound;
  bounds = c.operations_planned_well.ensures.bound;
  fit = c.responses_of_a_plan.ensures.fit;
  keep = c.responses_of_a_plan.ensures.keep;
  costs = c.responses_of_a_plan.ensures.costs;
  greatest = c.greatest_is_bound.ensures;
  one = c.one_bound.ensures;
}
