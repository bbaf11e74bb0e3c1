use Rattle.std.proofs.Common.{◌∙◌, ◌+◌}
use Rattle.cost_num.specs.Capped.{capped}
use Rattle.cost_num.proofs.Values.{reads_more}
use Rattle.cost_num.proofs.weights.number_capped.Goals as goal

pub loop-digit-preserved : goal.loop-digit-preserved
loop-digit-preserved c =
    let sum = c.add_capped-number.ensures in
    let product = c.times_capped.ensures in
    let digit = c.from.ensures in
    reads_more c.args.digits.now c.loop-digit.digit-index c.loop-digit.number c.add_capped-number.result _ c.loop-digit-test.true c.loop-digit.invariant (sum ∙ λ i. capped (product i + digit i))
