use Rattle.operation_commands.proofs.Wanting.{wanting_refused}
use Rattle.operation_commands.proofs.auditing.wanting_verdict.Goals as goal

pub returns-in-Refused : goal.returns-in-Refused
returns-in-Refused c = wanting_refused c.args.most c.in-Refused.text c.in-Refused.ensures
