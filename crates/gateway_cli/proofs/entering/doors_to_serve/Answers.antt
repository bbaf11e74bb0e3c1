use Rattle.std.proofs.Common.{◌∙◌, ap}
use Rattle.std.specs.Duration.{as_nanos}
use Rattle.gateway_cli.proofs.entering.doors_to_serve.Goals as goal

pub returns-clause-patience : goal.returns-clause-patience
returns-clause-patience c = ap as_nanos (c.let_end.ensures.rest.1 ∙ c.let_wait.ensures.rest.1) ∙ c.new-doors.ensures.patience
