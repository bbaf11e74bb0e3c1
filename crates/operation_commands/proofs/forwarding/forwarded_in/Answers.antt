-- What is asked is the request.
use Rattle.std.proofs.Common.{string_bytes, subst}
use Rattle.acceptance.specs.Requests.{Prepared}
use Rattle.acceptance.specs.Forwarding.{IsSentText}
use Rattle.operation_commands.proofs.forwarding.forwarded_in.Goals as goal

pub returns-in-Ok-clause-body : goal.returns-in-Ok-clause-body
returns-in-Ok-clause-body c =
    subst (λ r. (p : Prepared r) → IsSentText r p c.in-Ok.forwarded.alias (string_bytes c.in-Ok.forwarded.body)) c.request_of-request.ensures.data c.in-Ok.ensures.body
