use Rattle.std.proofs.Common.{All, refl, subst}
use Rattle.std.proofs.lemmas.List.{take_all}
use Rattle.std.proofs.lemmas.List.Elements.{All-more}
use Rattle.literal_loads.specs.KnownInputs.{scale_of, placed_in}
use Rattle.literal_loads.specs.Comparing.{IsAmong}
use Rattle.literal_loads.proofs.loads.Loads.are_among.Goals as goal

pub loop-other-preserved : goal.loop-other-preserved
loop-other-preserved c =
    let P = IsAmong (scale_of c.args.self.now.of) (placed_in c.args.known.now) c.args.written.now.items.now in
    All-more P c.args.others.now c.loop-other.other-index c.other-item.result c.loop-other-test.true c.loop-other.invariant (subst P c.other-item.is (c.if-not-is_among.ensures refl))

pub returns : goal.returns
returns c = λ same.
    let P = IsAmong (scale_of c.args.self.now.of) (placed_in c.args.known.now) c.args.written.now.items.now in
    subst (All P) (take_all c.loop-other.other-index c.args.others.now c.loop-other-test.false) c.loop-other.invariant
