use Rattle.std.proofs.Common.{subst}
use Rattle.literal_loads.specs.declared.weighing.Weighing.{Weighing}
use Rattle.literal_loads.specs.KnownInputs.{scale_of}
use Rattle.literal_loads.specs.Comparing.{AreSameArguments}
use Rattle.literal_loads.proofs.SameInputs.{arguments_same}
use Rattle.literal_loads.proofs.loads.Loads.are_same.Goals as goal

pub returns-in-Some-clause-same : goal.returns-in-Some-clause-same
returns-in-Some-clause-same c = λ right same.
    let still = c.in_ok-learn_inputs.ensures.right right in
    let known = c.in-Some.ensures.known still in
    let written = c.args.written.now in
    let others = c.args.others.now in
    subst (λ (w : Weighing). AreSameArguments (scale_of w) c.args.of.number written others) c.in_ok-learn_inputs.ensures.of
    (arguments_same (scale_of c.learn_inputs.new.self.of) c.in-Some.known.now known written others (c.are_same_inputs.ensures still known same) c.args.of c.in-Some.ensures.owner)
