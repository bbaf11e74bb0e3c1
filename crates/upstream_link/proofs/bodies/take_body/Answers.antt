use Rattle.std.proofs.Common.{sym, false, []}
use Rattle.std.proofs.lemmas.List.{append-nil}
use Rattle.upstream_link.proofs.Framed.{no_body}
use Rattle.upstream_link.proofs.Receiving.{brings_none, received_open}
use Rattle.upstream_link.proofs.bodies.take_body.Goals as goal

pub returns-in-NoBody-clause-exact : goal.returns-in-NoBody-clause-exact
returns-in-NoBody-clause-exact g c =
    received_open c.args.kept.now c.args.kept.now (g.W.Wire.coming c.args.wire.now, g.W.Wire.log c.args.wire.now) (g.W.Wire.coming c.args.wire.now, g.W.Wire.log c.args.wire.now) false [] (brings_none (g.W.Wire.coming c.args.wire.now, g.W.Wire.log c.args.wire.now)) (sym (append-nil c.args.kept.now)) (no_body c.args.framing c.new.result.items c.args.kept.now false c.in-NoBody.is c.new.ensures.items)
