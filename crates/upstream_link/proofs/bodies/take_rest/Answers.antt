use Rattle.std.proofs.Common.{◌≡◌, ◌∙◌, refl, false, ◌++◌, take, arith}
use Rattle.std.proofs.lemmas.List.{take_all}
use Rattle.upstream_link.specs.Received.{is_failure}
use Rattle.upstream_link.proofs.Framed.{rest_fault}
use Rattle.upstream_link.proofs.Receiving.{received_says}
use Rattle.upstream_link.proofs.bodies.take_rest.Goals as goal

pub returns-in-Err-clause-exact : goal.returns-in-Err-clause-exact
returns-in-Err-clause-exact g c =
    let first = c.in-Err.ensures.exact in
    received_says c.args.kept.now (g.W.Wire.coming c.args.wire.now, g.W.Wire.log c.args.wire.now) (g.W.Wire.coming c.take_all.new.wire, g.W.Wire.log c.take_all.new.wire) (is_failure c.in-Err.fault) (is_failure c.in-Err.fault) first refl
    (λ k. rest_fault c.take_all.new.kept (c.args.kept.now ++ first.bytes) first.ended c.in-Err.fault k)

pub returns-in-Ok-clause-exact : goal.returns-in-Ok-clause-exact
returns-in-Ok-clause-exact g c =
    let all : take c.len-count.result c.take_all.new.kept ≡ c.take_all.new.kept = take_all c.len-count.result c.take_all.new.kept (omega (arith, c.len-count.ensures)) in
    received_says c.args.kept.now (g.W.Wire.coming c.args.wire.now, g.W.Wire.log c.args.wire.now) (g.W.Wire.coming c.take_all.new.wire, g.W.Wire.log c.take_all.new.wire) false false c.in-Ok.ensures.exact refl
    (λ k. (c.hand_over.ensures ∙ all ∙ k.0, k.1, k.2))
