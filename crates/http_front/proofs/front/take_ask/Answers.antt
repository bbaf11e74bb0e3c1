-- A head, and then its body.
use Rattle.std.proofs.Common.{◌≡◌, ◌+◌, ◌-◌, take, drop, sym, subst, refl}
use Rattle.http_front.specs.Service.{HeadIs}
use Rattle.http_front.proofs.Fronts.{body_fails, asks}
use Rattle.outside.proofs.Taking.{taken_then}
use Rattle.http_front.proofs.front.take_ask.Goals as goal

pub returns-in-Err-take_body-clause-exact : goal.returns-in-Err-take_body-clause-exact
returns-in-Err-take_body-clause-exact g c =
    let first = c.in-Ok.ensures.exact in
    let now = c.take_head.new.kept.items in
    let is = subst (λ l. HeadIs c.args.names.now l c.in-Ok.head) (sym first.says.1) first.says.0 in
    taken_then c.args.kept.now.items now _ _ _ first first.says.1 c.in-Err-take_body.ensures.exact
    (λ more ended k. body_fails c.args.names.now now more c.take_body.new.kept.items ended c.in-Ok.head c.in-Err-take_body.fault is c.in-Ok.ensures.within.1 k)

pub returns-in_default-clause-exact : goal.returns-in_default-clause-exact
returns-in_default-clause-exact g c =
    let first = c.in-Ok.ensures.exact in
    taken_then c.args.kept.now.items c.take_head.new.kept.items _ _ _ first first.says.1 c.in-Ok-take_body.ensures.exact (λ more ended k. tt)

pub returns-clause-exact : goal.returns-clause-exact
returns-clause-exact g c =
    let first = c.in-Ok.ensures.exact in
    let now = c.take_head.new.kept.items in
    let is = subst (λ l. HeadIs c.args.names.now l c.in-Ok.head) (sym first.says.1) first.says.0 in
    taken_then c.args.kept.now.items now _ _ _ first first.says.1 c.in-Ok-take_body.ensures.exact
    (λ more ended k. asks c.args.names.now now more c.take_body.new.kept.items c.drop_front.new.kept.items c.in-Ok.head (record { key = c.in-Ok.head.key; body = c.in-Ok-part.body; passed = c.in-Ok.head.passed; close = c.in-Ok.head.close }) is c.in-Ok.ensures.within.1 k.0 k.1 refl refl refl (subst (λ l. c.in-Ok-part.body.items ≡ take (c.in-Ok.head.len + c.in-Ok.head.length - c.in-Ok.head.len) (drop c.in-Ok.head.len l)) c.deref.ensures.value c.in-Ok-part.ensures) c.drop_front.ensures)
