use Rattle.std.proofs.Common.{refl}
use Rattle.command_outcomes.specs.PassedOn.{answer_counted}
use Rattle.operation_commands.proofs.own_answers.cost_at.Goals as goal

pub returns-in-Ok-clause-answered : goal.returns-in-Ok-clause-answered
returns-in-Ok-clause-answered c = (answer_counted c.in-Ok.counted, c.in-Ok.ensures.answered, refl)
