use Rattle.std.proofs.Common.{◌-◌, ◌∙◌, length, take, drop, refl, subst, arith}
use Rattle.outside.specs.Dials.{LastBecomes, sends}
use Rattle.outside.proofs.Growing.{take_further, within_rest}
use Rattle.upstream_link.proofs.Sent.{sent_none, sent_more, sent_and_failed, front_at}
use Rattle.upstream_link.proofs.sending.send.Goals as goal

pub pieces-init : goal.pieces-init
pieces-init g c = (c.requires.dialled, omega arith, refl, omega arith, sent_none (g.W.Wire.log c.args.wire.now))

pub pieces-preserved : goal.pieces-preserved
pieces-preserved g c =
    let piece = c.args.piece.now in
    let done = c.pieces.done in
    let count = c.in-Ok.count in
    let so_far = c.pieces.invariant in
    let one = c.in-Ok.ensures in
    let before = g.W.Wire.log c.args.wire.now in
    let after = g.W.Wire.log c.write.new.self in (
      one.up,
      one.still ∙ so_far.1,
      one.dials ∙ so_far.2,
      within_rest done count piece one.within so_far.3,
      subst (λ l. LastBecomes (sends l) before after) (take_further done count piece)
          (sent_more before (g.W.Wire.log c.pieces.wire) after (take done piece) (take count (take (length piece - done) (drop done piece))) so_far.4 one.sent),
    )

pub returns-in-Err-clause-exact : goal.returns-in-Err-clause-exact
returns-in-Err-clause-exact g c =
    let piece = c.args.piece.now in
    let done = c.pieces.done in (
      take done piece,
      front_at done piece c.pieces-test.true,
      sent_and_failed (g.W.Wire.log c.args.wire.now) (g.W.Wire.log c.pieces.wire) (g.W.Wire.log c.write.new.self) (take done piece) c.pieces.invariant.4 c.in-Err.ensures.sent,
    )
