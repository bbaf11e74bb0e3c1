use Rattle.std.proofs.Common.{◌≡◌, ◌∙◌, ap, sym, inr, subst, IfOk}
use Rattle.acceptance.specs.Requests.{request_data}
use Rattle.operation_commands.specs.OwnAnswers.{IsOwnCost}
use Rattle.operation_commands.specs.Explain.{own_price_text}
use Rattle.operation_commands.proofs.explaining.explanation_of.Goals as goal

pub returns-in-Ok-clause-explained : goal.returns-in-Ok-clause-explained
returns-in-Ok-clause-explained c =
    let own = subst (IsOwnCost c.args.texts.now.schema (request_data c.args.request.now)) c.in-Ok-Some.field-0-is c.in-Ok-Some.ensures.own in
    inr (
      own.0,
      own.1,
      subst (λ r. IfOk r (λ text. text.items ≡ own_price_text c.in-Ok-Some.cost)) c.in-Ok.is c.own_price.ensures ∙ ap own_price_text (sym own.2),
    )
