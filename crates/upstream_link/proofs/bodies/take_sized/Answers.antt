use Rattle.std.proofs.Common.{◌∙◌, ap, take, refl, false, ◌++◌}
use Rattle.upstream_link.specs.Received.{is_failure}
use Rattle.upstream_link.proofs.Framed.{sized_fault}
use Rattle.upstream_link.proofs.Receiving.{received_says}
use Rattle.upstream_link.proofs.bodies.take_sized.Goals as goal

pub returns-in-Err-clause-exact : goal.returns-in-Err-clause-exact
returns-in-Err-clause-exact g c =
    let first = c.in-Err.ensures.exact in
    received_says c.args.kept.now (g.W.Wire.coming c.args.wire.now, g.W.Wire.log c.args.wire.now) (g.W.Wire.coming c.take_data.new.wire, g.W.Wire.log c.take_data.new.wire) (is_failure c.in-Err.fault) (is_failure c.in-Err.fault) first refl
    (λ k. sized_fault c.args.size c.take_data.new.kept (c.args.kept.now ++ first.bytes) first.ended c.in-Err.fault k)

pub returns-in-Ok-clause-exact : goal.returns-in-Ok-clause-exact
returns-in-Ok-clause-exact g c =
    received_says c.args.kept.now (g.W.Wire.coming c.args.wire.now, g.W.Wire.log c.args.wire.now) (g.W.Wire.coming c.take_data.new.wire, g.W.Wire.log c.take_data.new.wire) false false c.in-Ok.ensures.exact refl
    (λ k. (k.0, c.hand_over.ensures ∙ ap (take c.args.size) k.1))
