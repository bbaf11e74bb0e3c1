use Rattle.plan_model.specs.Operations.{root_place, root_position}
use Rattle.asked_fields.specs.Asked.{asked_operation, plan_in}
use Rattle.asked_fields.proofs.laws.responses_to_what_is_asked.Goals as goal

pub returns-clause-fit : goal.returns-clause-fit
returns-clause-fit c = λ e root o form t single well. c.responses_of_a_plan.ensures.fit e form (root_place root) (root_position root o) (plan_in (asked_operation e root o)) t (c.what_is_asked_is_planned.ensures.operation e root o single well)

pub returns-clause-costs : goal.returns-clause-costs
returns-clause-costs c = λ e root o part form t single well. c.responses_of_a_plan.ensures.costs e part form (root_place root) (root_position root o) (plan_in (asked_operation e root o)) t (c.what_is_asked_is_planned.ensures.operation e root o single well)
