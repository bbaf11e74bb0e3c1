use Rattle.std.proofs.Common.{inr, subst}
use Rattle.acceptance.specs.Requests.{request_data}
use Rattle.operation_commands.specs.OwnAnswers.{IsOwnCost}
use Rattle.operation_commands.proofs.pricing.price_of.Goals as goal

pub returns-in-Ok-Some-clause-price : goal.returns-in-Ok-Some-clause-price
returns-in-Ok-Some-clause-price c = inr (subst (IsOwnCost c.args.texts.now.schema (request_data c.args.request.now)) c.in-Ok-Some.field-0-is c.in-Ok-Some.ensures.own)
