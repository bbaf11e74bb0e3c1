use Rattle.std.proofs.Common.{subst}
use Rattle.variable_coercion.specs.Variables.{variables_answer}
use Rattle.variable_coercion.specs.Calls.{IsTold, variable_told}
use Rattle.local_introspection.specs.LocalStages.{ask_data}
use Rattle.local_introspection.proofs.Stages.{variable_refused}
use Rattle.local_introspection.proofs.answering.valued.Goals as goal

pub returns-in-Err-clause-refused : goal.returns-in-Err-clause-refused
returns-in-Err-clause-refused c =
    variable_refused (ask_data c.args.of.now) c.args.checked.now.operation.now c.in-Err.fault c.variable_fault.result c.requires.of.keeps
    (subst (λ o. IsTold (variable_told c.in-Err.fault) (variables_answer (ask_data c.args.of.now).schema o.variables.items (ask_data c.args.of.now).given)) c.operation.ensures c.in-Err.ensures)
    c.variable_fault.ensures
