use Rattle.collected_fields.specs.Prepared.{list_data}
use Rattle.collected_fields.specs.Steps.{SameSteps}
use Rattle.collected_fields.proofs.KindLaws.{none_so_far, one_so_far, all_so_far}
use Rattle.collected_fields.proofs.kinds.add_lists.Goals as goal

pub loop-list-init : goal.loop-list-init
loop-list-init c = none_so_far (λ s T U l. SameSteps s T U l.steps) list_data c.args.conditions.now.items c.args.lists.now

pub loop-list-preserved : goal.loop-list-preserved
loop-list-preserved c = one_so_far (λ s T U l. SameSteps s T U l.steps) list_data c.args.conditions.now.items c.args.lists.now c.loop-list.conditions.items c.add_list.new.conditions.items c.loop-list.list-index c.list-item.result c.loop-list-test.true c.list-item.is c.loop-list.invariant c.in_ok-add_list.ensures

pub returns : goal.returns
returns c = all_so_far (λ s T U l. SameSteps s T U l.steps) list_data c.args.conditions.now.items c.args.lists.now c.loop-list.conditions.items c.loop-list.list-index c.loop-list-test.false c.loop-list.invariant
