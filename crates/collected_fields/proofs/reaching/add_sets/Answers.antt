use Rattle.collected_fields.proofs.ReachingLaws.{next_set}
use Rattle.collected_fields.proofs.reaching.add_sets.Goals as goal

pub returns-in_err-add_set-clause-still : goal.returns-in_err-add_set-clause-still
returns-in_err-add_set-clause-still c = λ right. c.in_err-add_set.ensures.still (c.loop-set.invariant.0 right)

pub loop-set-preserved : goal.loop-set-preserved
loop-set-preserved c = (
  λ right. c.in_ok-add_set.ensures.still (c.loop-set.invariant.0 right),
  λ right. next_set c.args.tables.now c.args.reach.now c.loop-set.reach c.add_set.new.reach c.args.sets.now c.loop-set.set-index _ c.loop-set-test.true (c.loop-set.invariant.1 right) (c.in_ok-add_set.ensures.adds (c.loop-set.invariant.0 right)),
)
