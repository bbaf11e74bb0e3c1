use Rattle.std.proofs.Common.{◌≡◌, map, take}
use Rattle.schema_model.specs.SchemaViews.{schema_data}
use Rattle.collected_fields.specs.Walks.{numbered_group}
use Rattle.collected_fields.specs.Lists.{HasMore, AllFinish}
use Rattle.collected_fields.proofs.finish.finish.Given as goal

abbrev pub invariant-loop-of_key : goal.invariant-loop-of_key
invariant-loop-of_key l = (l.joins.count ≡ l.fn.joins.count) × (HasMore l.fn.joins l.joins × AllFinish (schema_data l.schema) l.fn.joins l.joins (map numbered_group (take l.of_key-index l.fields)) l.groups.items)
