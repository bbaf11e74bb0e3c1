use Rattle.std.proofs.Common.{subst, sym}
use Rattle.acceptance.specs.Requests.{request_data}
use Rattle.command_outcomes.specs.PassedOn.{IsAnsweredWith, asked_at}
use Rattle.operation_commands.proofs.own_answers.answer_at.Goals as goal

pub returns-in-Ok-write-clause-answered : goal.returns-in-Ok-write-clause-answered
returns-in-Ok-write-clause-answered c = subst (IsAnsweredWith (asked_at c.args.facts.now (request_data c.args.request.now) c.args.place)) (sym c.in-Ok-write.ensures) c.in-Ok.ensures.answered
