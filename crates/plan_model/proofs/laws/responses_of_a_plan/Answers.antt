use Rattle.plan_model.proofs.SameResponses.{fit_alike, keep_alike, costs_capped}
use Rattle.plan_model.proofs.laws.responses_of_a_plan.Goals as goal

pub returns-clause-fit : goal.returns-clause-fit
returns-clause-fit c = fit_alike

pub returns-clause-keep : goal.returns-clause-keep
returns-clause-keep c = keep_alike

pub returns-clause-costs : goal.returns-clause-costs
returns-clause-costs c = costs_capped
