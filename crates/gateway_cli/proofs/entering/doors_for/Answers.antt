use Rattle.gateway_cli.proofs.entering.doors_for.Goals as goal

pub returns-in-Ok-clause-patience : goal.returns-in-Ok-clause-patience
returns-in-Ok-clause-patience c = c.new.ensures.patience
