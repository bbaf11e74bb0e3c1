use Rattle.std.proofs.Common.{Some, subst}
use Rattle.acceptance.specs.Requests.{request_data}
use Rattle.operation_commands.specs.OwnAnswers.{IsOwnCost}
use Rattle.operation_commands.proofs.own_answers.own_cost.Goals as goal

pub returns-in-Ok-clause-own : goal.returns-in-Ok-clause-own
returns-in-Ok-clause-own c = subst (λ text. IsOwnCost text (request_data c.args.request.now) (Some c.in-Ok.cost)) c.as_str.ensures c.in-Ok.ensures.own
