use Rattle.std.proofs.Common.{◌++◌, ◌∙◌, sym, ap, subst, inl, inr, Ok, Err, refl, false}
use Rattle.upstream_link.specs.Received.{Brings, is_failure}
use Rattle.upstream_link.specs.Bodies.{BodyIs}
use Rattle.upstream_link.specs.Replies.{HasBody}
use Rattle.upstream_link.specs.ReplyHeads.{after_head}
use Rattle.upstream_link.proofs.Answered.{reply_head_stays, behind}
use Rattle.upstream_link.proofs.Receiving.{received_says, received_on}
use Rattle.upstream_link.proofs.reply.take_reply.Goals as goal

pub returns-in-Err-clause-exact : goal.returns-in-Err-clause-exact
returns-in-Err-clause-exact g c =
    received_says c.args.kept.now (g.W.Wire.coming c.args.wire.now, g.W.Wire.log c.args.wire.now) (g.W.Wire.coming c.take_reply_head.new.wire, g.W.Wire.log c.take_reply_head.new.wire) (is_failure c.in-Err.fault) (is_failure c.in-Err.fault) c.in-Err.ensures.exact refl (λ k. inl k)

pub returns-in-Ok-take_body-clause-exact : goal.returns-in-Ok-take_body-clause-exact
returns-in-Ok-take_body-clause-exact g c =
    let first = c.in-Ok.ensures.exact in
    let says = first.says in
    let now = c.take_reply_head.new.kept in
    let second = c.in-Ok-take_body.ensures.exact in
    let f = c.in-Ok-framing.framing in
    received_on c.args.kept.now c.pass.new.self (g.W.Wire.coming c.args.wire.now, g.W.Wire.log c.args.wire.now) (g.W.Wire.coming c.take_reply_head.new.wire, g.W.Wire.log c.take_reply_head.new.wire) (g.W.Wire.coming c.take_body.new.wire, g.W.Wire.log c.take_body.new.wire) false false first.bytes
    (subst (λ e. Brings (g.W.Wire.coming c.args.wire.now, g.W.Wire.log c.args.wire.now) first.bytes e false (g.W.Wire.coming c.take_reply_head.new.wire, g.W.Wire.log c.take_reply_head.new.wire)) says.goes_on first.brings) second refl
    (λ ended k.
    let there = ap (λ l. l ++ second.bytes) c.pass.ensures ∙ behind now second.bytes says.h c.in-Ok.head.len says.at.3 says.len_is in
    let body : HasBody says.h (Ok c.in-Ok-take_body.body.items) (after_head says.h (now ++ second.bytes)) ended = (f, sym says.framing_is ∙ c.in-Ok-framing.is, subst (λ l. BodyIs f (Ok c.in-Ok-take_body.body.items) l ended) there k) in
    let at = reply_head_stays (c.args.kept.now ++ first.bytes) now second.bytes says.h says.at in
    (now ++ second.bytes, says.h, at, says.code_is, body))

pub returns-in-Err-take_body-clause-exact : goal.returns-in-Err-take_body-clause-exact
returns-in-Err-take_body-clause-exact g c =
    let first = c.in-Ok.ensures.exact in
    let says = first.says in
    let now = c.take_reply_head.new.kept in
    let second = c.in-Err-take_body.ensures.exact in
    let f = c.in-Ok-framing.framing in
    received_on c.args.kept.now c.pass.new.self (g.W.Wire.coming c.args.wire.now, g.W.Wire.log c.args.wire.now) (g.W.Wire.coming c.take_reply_head.new.wire, g.W.Wire.log c.take_reply_head.new.wire) (g.W.Wire.coming c.take_body.new.wire, g.W.Wire.log c.take_body.new.wire) (is_failure c.in-Err-take_body.fault) (is_failure c.in-Err-take_body.fault) first.bytes
    (subst (λ e. Brings (g.W.Wire.coming c.args.wire.now, g.W.Wire.log c.args.wire.now) first.bytes e false (g.W.Wire.coming c.take_reply_head.new.wire, g.W.Wire.log c.take_reply_head.new.wire)) says.goes_on first.brings) second refl
    (λ ended k.
    let there = ap (λ l. l ++ second.bytes) c.pass.ensures ∙ behind now second.bytes says.h c.in-Ok.head.len says.at.3 says.len_is in
    let body : HasBody says.h (Err c.in-Err-take_body.fault) (after_head says.h (now ++ second.bytes)) ended = (f, sym says.framing_is ∙ c.in-Ok-framing.is, subst (λ l. BodyIs f (Err c.in-Err-take_body.fault) l ended) there k) in
    let at = reply_head_stays (c.args.kept.now ++ first.bytes) now second.bytes says.h says.at in
    inr (now ++ second.bytes, says.h, at, inr body))
