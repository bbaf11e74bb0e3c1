use Rattle.std.proofs.Common.{map, take}
use Rattle.schema_model.specs.SchemaViews.{schema_data}
use Rattle.plan_model.specs.Likeness.{AreLike}
use Rattle.collected_fields.specs.Views.{collected_field}
use Rattle.collected_fields.proofs.alike.unlike_fields.Given as goal

abbrev pub invariant-loop-field : goal.invariant-loop-field
invariant-loop-field l = AreLike (schema_data l.schema) (map collected_field (take l.field-index l.fields)) (map collected_field l.unlike.items)
