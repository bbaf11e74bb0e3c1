use Rattle.std.proofs.Common.{map, take}
use Rattle.collected_fields.specs.Walks.{numbered}
use Rattle.collected_fields.specs.Grouping.{AreGrouped}
use Rattle.collected_fields.proofs.group.group_by_key.Given as goal

abbrev pub invariant-loop-field : goal.invariant-loop-field
invariant-loop-field l = AreGrouped (map numbered (take l.field-index l.fields)) l.groups
