use Rattle.variable_coercion.specs.Calls.{variables_data, environment}
use Rattle.local_introspection.specs.LocalStages.{ask_data}
use Rattle.local_introspection.proofs.Stages.{plan_refused}
use Rattle.local_introspection.proofs.answering.planned.Goals as goal

pub returns-in-Ok-clause-planned : goal.returns-in-Ok-clause-planned
returns-in-Ok-clause-planned c = c.in-Ok.ensures.answer.0

pub returns-in-Err-clause-refused : goal.returns-in-Err-clause-refused
returns-in-Err-clause-refused c =
    plan_refused (ask_data c.args.of.now) c.args.checked.now (environment c.args.variables.now) (variables_data c.args.variables.now) c.in-Err.fault c.plan_fault.result c.requires.of c.requires.values
    (c.what_arguments_see.ensures c.args.variables.now) c.in-Err.ensures.answer c.plan_fault.ensures
