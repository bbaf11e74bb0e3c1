use Rattle.std.proofs.Common.{map, take}
use Rattle.collected_fields.specs.Walks.{numbered}
use Rattle.collected_fields.proofs.GroupLaws.{grouped_none, grouped_next, grouped_all}
use Rattle.collected_fields.proofs.group.group_by_key.Goals as goal

pub loop-field-init : goal.loop-field-init
loop-field-init c = grouped_none _ c.with_hasher.ensures.empty

pub loop-field-preserved : goal.loop-field-preserved
loop-field-preserved c = grouped_next c.args.fields.now c.loop-field.field-index c.field-item.result c.put.new.self c.loop-field-test.true c.field-item.is (c.in_ok-put.ensures (map numbered (take c.loop-field.field-index c.args.fields.now)) c.loop-field.invariant)

pub returns : goal.returns
returns c = grouped_all c.args.fields.now c.loop-field.field-index c.loop-field.groups c.loop-field-test.false c.loop-field.invariant
