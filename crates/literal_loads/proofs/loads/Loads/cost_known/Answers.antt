use Rattle.std.proofs.Common.{arith}
use Rattle.literal_loads.specs.KnownInputs.{scale_of}
use Rattle.literal_loads.proofs.KeptInputs.{arguments_weigh}
use Rattle.literal_loads.proofs.loads.Loads.cost_known.Goals as goal

pub returns : goal.returns
returns c = λ right.
    let known = c.in_ok-known.ensures.known right in
    arguments_weigh (scale_of c.args.self.now.of) c.args.of c.in_ok-known.known.now c.args.written.now c.in_ok-sum.sum _ known c.in_ok-known.ensures.owner (c.in_ok-sum.ensures right known) (omega (arith, c.if-sum-gt0.false)) c.min.ensures
