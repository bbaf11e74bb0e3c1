use Rattle.std.proofs.Common.{ap}
use Rattle.schema_model.specs.SchemaViews.{schema_data}
use Rattle.acceptance.specs.Requests.{request_data}
use Rattle.acceptance.proofs.Costs.{accepted, counted, too_costly}
use Rattle.acceptance.proofs.accepting.bounded.Goals as goal

pub returns-in-Ok-clause-bound : goal.returns-in-Ok-clause-bound
returns-in-Ok-clause-bound c =
    accepted record {
      is_plan = c.operations_planned_well.ensures.plan;
      sound = c.operations_planned_well.ensures.sound;
      bounds = c.operations_planned_well.ensures.bound;
      fit = c.responses_of_a_plan.ensures.fit;
      keep = c.responses_of_a_plan.ensures.keep;
      costs = c.responses_of_a_plan.ensures.costs;
      greatest = c.greatest_is_bound.ensures;
      one = c.one_bound.ensures;
    } (request_data c.args.request.now) c.args.plan.now c.in-Ok.bound c.requires.planned c.requires.of_schema (ap schema_data c.requires.schema) c.in-Ok.ensures.bound c.in-Ok.ensures.within_cap

pub returns-in-Err-clause-refused : goal.returns-in-Err-clause-refused
returns-in-Err-clause-refused c = (
  c.requires.planned.prepared,
  c.requires.planned.well,
  too_costly record {
    is_plan = c.operations_planned_well.ensures.plan;
    sound = c.operations_planned_well.ensures.sound;
    bounds = c.operations_planned_well.ensures.bound;
    fit = c.responses_of_a_plan.ensures.fit;
    keep = c.responses_of_a_plan.ensures.keep;
    costs = c.responses_of_a_plan.ensures.costs;
    greatest = c.greatest_is_bound.ensures;
    one = c.one_bound.ensures;
  } (request_data c.args.request.now) c.args.plan.now c.in-Err.fault c.requires.planned c.requires.of_schema (ap schema_data c.requires.schema) c.in-Err.ensures.too_costly,
)

pub returns-in-Ok-clause-counted : goal.returns-in-Ok-clause-counted
returns-in-Ok-clause-counted c = counted c.args.plan.now c.in-Ok.bound c.in-Ok.ensures.bound c.in-Ok.ensures.within_cap
