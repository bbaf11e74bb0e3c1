use Rattle.std.proofs.Common.{subst, sym}
use Rattle.literal_loads.specs.LoadSums.{AreBoth}
use Rattle.literal_loads.specs.KnownInputs.{scale_of, placed_seen}
use Rattle.literal_loads.proofs.KeptInputs.{one_absent_more, right_there}
use Rattle.literal_loads.proofs.weighing.Weighing.all_absent.Goals as goal

pub loop-at-preserved : goal.loop-at-preserved
loop-at-preserved c = λ right.
    let e = scale_of c.args.self.now in
    let p = c.index-placed-at.result in
    one_absent_more placed_seen e c.args.placed.now c.loop-at.at p c.loop-at.sum p.absent c.in_ok-sum.sum c.loop-at-test.true c.loop-at.auto.at c.index-placed-at.is (c.loop-at.invariant right)
    (right_there e c.args.placed.now c.loop-at.at p c.loop-at-test.true c.loop-at.auto.at c.index-placed-at.is right) (subst (λ q. AreBoth c.loop-at.sum q.absent c.in_ok-sum.sum) (sym c.index-placed-at.is) c.in_ok-sum.ensures)
