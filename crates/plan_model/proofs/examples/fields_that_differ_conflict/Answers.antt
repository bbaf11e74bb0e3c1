use Rattle.plan_model.proofs.Computed.{arguments_conflict, names_conflict, needs_argument}
use Rattle.plan_model.proofs.examples.fields_that_differ_conflict.Goals as goal

pub returns-clause-arguments : goal.returns-clause-arguments
returns-clause-arguments c = arguments_conflict

pub returns-clause-names : goal.returns-clause-names
returns-clause-names c = names_conflict

pub returns-clause-size : goal.returns-clause-size
returns-clause-size c = needs_argument
