-- Where the operation is answered that is picked.
use Rattle.std.proofs.Common.{subst}
use Rattle.local_introspection.specs.PassedOn.{request_data}
use Rattle.operation_class.specs.Routes.{IsRoute}
use Rattle.local_introspection.specs.LocalAnswers.{IsAnsweredWith}
use Rattle.local_introspection.specs.Counted.{answer_counted}
use Rattle.gateway_core.specs.Gates.{rules_of}
use Rattle.gateway_core.proofs.ExaminedBodies.{is_mixed, is_local, not_local}
use Rattle.gateway_core.proofs.own_answers.own_answer.Goals as goal

pub returns-in-Ok-Mixed-clause-refused : goal.returns-in-Ok-Mixed-clause-refused
returns-in-Ok-Mixed-clause-refused c =
    let r = request_data c.args.request.now in
    let route = subst (IsRoute r.name r.document) c.in-Ok-Mixed.field-0-is c.in-Ok-Mixed.ensures in
    is_mixed (rules_of c.args.gate.now) r c.in-Some.facts c.in-Some.is route.0 route.1.0 c.in-Ok-Mixed.at route.1.1

pub returns-in-Ok-clause-own : goal.returns-in-Ok-clause-own
returns-in-Ok-clause-own c =
    let r = request_data c.args.request.now in
    let route = subst (IsRoute r.name r.document) c.in-Ok-Local.field-0-is c.in-Ok-Local.ensures in
    is_local (rules_of c.args.gate.now) r c.in-Some.facts c.in-Some.is c.in-Ok-Local.place route.0 (λ q. IsAnsweredWith q (answer_counted c.in-Ok.counted)) route.1 c.in-Ok.ensures.answered

pub returns-in-Err-counted_at-clause-refused : goal.returns-in-Err-counted_at-clause-refused
returns-in-Err-counted_at-clause-refused c =
    let r = request_data c.args.request.now in
    let route = subst (IsRoute r.name r.document) c.in-Ok-Local.field-0-is c.in-Ok-Local.ensures in
    not_local (rules_of c.args.gate.now) r c.in-Some.facts c.in-Some.is c.in-Ok-Local.place route.0 route.1 c.in-Err-counted_at.denial c.in-Err-counted_at.ensures.refused
