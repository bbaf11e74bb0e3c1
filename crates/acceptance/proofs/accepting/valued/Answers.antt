use Rattle.std.proofs.Common.{subst}
use Rattle.variable_coercion.specs.Variables.{variables_answer}
use Rattle.variable_coercion.specs.Calls.{IsTold, variable_told}
use Rattle.acceptance.specs.Requests.{request_data}
use Rattle.acceptance.proofs.Stages.{variable_refused}
use Rattle.acceptance.proofs.accepting.valued.Goals as goal

pub returns-in-Err-clause-refused : goal.returns-in-Err-clause-refused
returns-in-Err-clause-refused c =
    variable_refused (request_data c.args.request.now) c.args.checked.now.operation.now c.in-Err.fault c.variable_fault.result c.requires.of.keeps
    (subst (λ o. IsTold (variable_told c.in-Err.fault) (variables_answer (request_data c.args.request.now).schema o.variables.items (request_data c.args.request.now).given)) c.operation.ensures c.in-Err.ensures)
    c.variable_fault.ensures
