use Rattle.collected_fields.specs.Lists.{sets_in_joins}
use Rattle.collected_fields.proofs.ReachingLaws.{next_number}
use Rattle.collected_fields.proofs.reaching.reach_of.Goals as goal

pub loop-number-preserved : goal.loop-number-preserved
loop-number-preserved c = (
  λ right. c.in_ok-add_number.ensures.still (c.loop-number.invariant.0 right),
  λ right. next_number c.args.tables.now (sets_in_joins c.args.joins.now) c.none-reach.result c.loop-number.reach c.add_number.new.reach c.args.numbers.now c.loop-number.number-index _ c.loop-number-test.true (c.loop-number.invariant.1 right) (c.in_ok-add_number.ensures.adds (c.loop-number.invariant.0 right)),
)
