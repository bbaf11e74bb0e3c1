use Rattle.collected_fields.specs.Steps.{SameStep, step_data}
use Rattle.collected_fields.proofs.KindLaws.{none_so_far, one_so_far, all_so_far}
use Rattle.collected_fields.proofs.kinds.add_steps.Goals as goal

pub loop-step-init : goal.loop-step-init
loop-step-init c = none_so_far SameStep step_data c.args.conditions.now.items c.args.steps.now

pub loop-step-preserved : goal.loop-step-preserved
loop-step-preserved c = one_so_far SameStep step_data c.args.conditions.now.items c.args.steps.now c.loop-step.conditions.items c.add_step.new.conditions.items c.loop-step.step-index c.step-item.result c.loop-step-test.true c.step-item.is c.loop-step.invariant c.in_ok-add_step.ensures

pub returns : goal.returns
returns c = all_so_far SameStep step_data c.args.conditions.now.items c.args.steps.now c.loop-step.conditions.items c.loop-step.step-index c.loop-step-test.false c.loop-step.invariant
