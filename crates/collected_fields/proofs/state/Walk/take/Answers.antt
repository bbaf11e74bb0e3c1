use Rattle.collected_fields.specs.Walks.{walk_data}
use Rattle.collected_fields.proofs.WalkSteps.{taken_start, taken_next, taken_all}
use Rattle.collected_fields.proofs.state.Walk.take.Goals as goal

pub loop-field-init : goal.loop-field-init
loop-field-init c = taken_start c.args.fields.now (walk_data c.args.self.now)

pub loop-field-preserved : goal.loop-field-preserved
loop-field-preserved c = taken_next c.args.fields.now c.loop-field.field-index c.field-item.result (walk_data c.args.self.now) (walk_data c.loop-field.self) (walk_data c.keep.new.self) c.loop-field-test.true c.field-item.is c.loop-field.invariant c.in_ok-keep.ensures

pub returns : goal.returns
returns c = taken_all c.args.fields.now c.loop-field.field-index (walk_data c.args.self.now) (walk_data c.loop-field.self) c.loop-field-test.false c.loop-field.invariant
