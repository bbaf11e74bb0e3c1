-- The first bytes, and then those behind them.
use Rattle.std.proofs.Common.{◌++◌, Err, subst}
use Rattle.outside.specs.Dials.{LastBecomes, sends}
use Rattle.upstream_link.specs.Exchanges.{SendSays}
use Rattle.upstream_link.proofs.Sent.{sent_more, not_sent}
use Rattle.upstream_link.proofs.sending.send_request.Goals as goal

pub returns-in-Ok-send-clause-exact : goal.returns-in-Ok-send-clause-exact
returns-in-Ok-send-clause-exact g c =
    let rest = c.args.request.now.rest.now in
    let before = g.W.Wire.log c.args.wire.now in
    let after = g.W.Wire.log c.send-2.new.wire in
    subst (λ l. LastBecomes (sends (l ++ rest)) before after) c.as_slice.ensures.value
    (sent_more before (g.W.Wire.log c.send.new.wire) after c.as_slice.result.now rest c.in-Ok.ensures.exact c.in-Ok-send.ensures.exact)

pub returns-in-Err-send-clause-exact : goal.returns-in-Err-send-clause-exact
returns-in-Err-send-clause-exact g c =
    let rest = c.args.request.now.rest.now in
    let before = g.W.Wire.log c.args.wire.now in
    let after = g.W.Wire.log c.send-2.new.wire in
    let f = c.in-Err-send.fault in
    subst (λ l. SendSays (l ++ rest) (Err f) before after) c.as_slice.ensures.value
    (not_sent before (g.W.Wire.log c.send.new.wire) after c.as_slice.result.now rest f c.in-Ok.ensures.exact c.in-Err-send.ensures.exact)
