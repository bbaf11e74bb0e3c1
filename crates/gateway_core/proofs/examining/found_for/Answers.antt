-- What was found of the request holds of what the body asks.
use Rattle.std.proofs.Common.{subst, Some}
use Rattle.request_bodies.specs.Bodies.{request_data as asked_data}
use Rattle.local_introspection.specs.PassedOn.{request_data, IsRefusedFor}
use Rattle.gateway_core.specs.Gates.{rules_of}
use Rattle.gateway_core.specs.Requests.{request_of, GoesUpstream, IsPromised}
use Rattle.gateway_core.specs.Begins.{IfRefusal}
use Rattle.gateway_core.specs.Examined.{IsOwn, IsNotOwn}
use Rattle.gateway_core.proofs.ExaminedBodies.{not_own_is_unfit, refused_is_unfit}
use Rattle.gateway_core.proofs.examining.found_for.Goals as goal

pub returns-in-Ok-Some-clause-found : goal.returns-in-Ok-Some-clause-found
returns-in-Ok-Some-clause-found c =
    let rules = rules_of c.args.gate.now in
    subst (λ q. IsOwn rules q (Some c.in-Ok-Some.counted)) c.request_of-request.ensures.data
    (subst (IsOwn rules (request_data c.request_of-request.result)) c.in-Ok-Some.field-0-is c.in-Ok-Some.ensures.own)

pub returns-in-Ok-clause-found : goal.returns-in-Ok-clause-found
returns-in-Ok-clause-found c =
    let rules = rules_of c.args.gate.now in (
      subst (GoesUpstream rules) c.request_of-request.ensures.data (subst (IsOwn rules (request_data c.request_of-request.result)) c.in-Ok-None.field-0-is c.in-Ok-None.ensures.own),
      subst (λ q. IsPromised q c.in-Ok.promise) c.request_of-request.ensures.data c.in-Ok.ensures.promised,
    )

pub returns-in-Err-promised-clause-unfit : goal.returns-in-Err-promised-clause-unfit
returns-in-Err-promised-clause-unfit c =
    let rules = rules_of c.args.gate.now in
    refused_is_unfit rules (request_of rules (asked_data c.args.asked.now) c.args.document.now)
    (subst (GoesUpstream rules) c.request_of-request.ensures.data (subst (IsOwn rules (request_data c.request_of-request.result)) c.in-Ok-None.field-0-is c.in-Ok-None.ensures.own))
    c.in-Err-promised.denial (subst (λ q. IfRefusal c.in-Err-promised.denial (IsRefusedFor q)) c.request_of-request.ensures.data c.in-Err-promised.ensures.refused)

pub returns-in-Err-clause-unfit : goal.returns-in-Err-clause-unfit
returns-in-Err-clause-unfit c =
    let rules = rules_of c.args.gate.now in
    not_own_is_unfit rules (request_of rules (asked_data c.args.asked.now) c.args.document.now) c.in-Err.denial
    (subst (λ q. IsNotOwn rules q c.in-Err.denial) c.request_of-request.ensures.data c.in-Err.ensures.refused)
