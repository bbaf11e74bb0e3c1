-- What was rewritten is what is prepared of the request.
use Rattle.std.proofs.Common.{string_bytes, ◌∙◌, ap}
use Rattle.std.proofs.lemmas.Str.{IsUtf8-string_bytes}
use Rattle.typename_rewrite.specs.ForwardedBodies.{body_data}
use Rattle.acceptance.specs.Requests.{request_data}
use Rattle.acceptance.proofs.SentBodies.{same_body, same_text}
use Rattle.acceptance.proofs.forwarding.sent_for.Goals as goal

pub returns-clause-body : goal.returns-clause-body
returns-clause-body c = λ p.
    let r = request_data c.args.request.now in
    let text = c.in_ok-rewritten.rewritten.text in
    let alias = c.in_ok-rewritten.rewritten.alias in
    same_text r c.args.checked.now c.requires.checked p alias (string_bytes c.in_ok-body.body) (body_data c.operation.result.now text r.given)
    (ap (λ o. body_data o text r.given) c.operation.ensures ∙ same_body r c.args.checked.now c.requires.checked p alias text c.in_ok-rewritten.ensures.text)
    (IsUtf8-string_bytes c.in_ok-body.body) c.in_ok-body.ensures.written c.in_ok-body.ensures.text
