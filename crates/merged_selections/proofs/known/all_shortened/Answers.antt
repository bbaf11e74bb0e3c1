use Rattle.schema_model.specs.SchemaViews.{schema_data}
use Rattle.merged_selections.proofs.SomeFields.{some_next, some_whole}
use Rattle.merged_selections.proofs.known.all_shortened.Goals as goal

pub loop-group-preserved : goal.loop-group-preserved
loop-group-preserved c = some_next (schema_data c.args.schema.now) c.args.groups.now c.loop-group.group-index c.group-item.result c.loop-group-test.true c.group-item.is c.loop-group.some.items c.push.new.self.items c.in_ok-shortened.field-0 c.in_ok-push.ensures.items c.loop-group.invariant c.in_ok-shortened.ensures

pub returns : goal.returns
returns c = some_whole (schema_data c.args.schema.now) c.args.groups.now c.loop-group.group-index c.loop-group.some.items c.loop-group-test.false c.loop-group.invariant
