use Rattle.collected_fields.specs.Lists.{sets_in_joins}
use Rattle.collected_fields.proofs.JoinLaws.{left_next}
use Rattle.collected_fields.proofs.joins.Joins.flat.Goals as goal

pub loop-number-preserved : goal.loop-number-preserved
loop-number-preserved c = left_next (sets_in_joins c.args.self.now) c.args.numbers.now c.loop-number.number-index _ c.loop-number.adding.list.items c.add.new.adding.list.items c.loop-number-test.true c.loop-number.invariant c.in_ok-add.ensures
