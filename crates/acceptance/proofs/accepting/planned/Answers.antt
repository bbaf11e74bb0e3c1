use Rattle.variable_coercion.specs.Calls.{variables_data, environment}
use Rattle.acceptance.specs.Requests.{request_data}
use Rattle.acceptance.proofs.Stages.{is_planned, plan_refused}
use Rattle.acceptance.proofs.accepting.planned.Goals as goal

pub returns-in-Ok-clause-planned : goal.returns-in-Ok-clause-planned
returns-in-Ok-clause-planned c =
    is_planned (request_data c.args.request.now) c.args.checked.now (environment c.args.variables.now) (variables_data c.args.variables.now) c.in-Ok.plan c.requires.of c.requires.values
    (c.what_arguments_see.ensures c.args.variables.now) c.in-Ok.ensures.answer.0 c.in-Ok.ensures.answer.1

pub returns-in-Err-clause-refused : goal.returns-in-Err-clause-refused
returns-in-Err-clause-refused c =
    plan_refused (request_data c.args.request.now) c.args.checked.now (environment c.args.variables.now) (variables_data c.args.variables.now) c.in-Err.fault c.plan_fault.result c.requires.of c.requires.values
    (c.what_arguments_see.ensures c.args.variables.now) c.in-Err.ensures.answer c.plan_fault.ensures
