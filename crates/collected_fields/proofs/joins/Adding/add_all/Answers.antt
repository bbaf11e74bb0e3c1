use Rattle.collected_fields.proofs.JoinLaws.{adds_none, adds_next, adds_all}
use Rattle.collected_fields.proofs.joins.Adding.add_all.Goals as goal

pub loop-set-init : goal.loop-set-init
loop-set-init c = adds_none c.args.self.now.list.items

pub loop-set-preserved : goal.loop-set-preserved
loop-set-preserved c = adds_next c.args.sets.now c.loop-set.set-index _ c.args.self.now.list.items c.loop-set.self.list.items c.add.new.self.list.items c.loop-set-test.true c.loop-set.invariant c.in_ok-add.ensures

pub returns : goal.returns
returns c = adds_all c.args.sets.now c.loop-set.set-index c.args.self.now.list.items c.loop-set.self.list.items c.loop-set-test.false c.loop-set.invariant
