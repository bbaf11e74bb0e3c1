use Rattle.std.proofs.Common.{Option, map, drop}
use Rattle.schema_model.specs.SchemaViews.{schema_data}
use Rattle.plan_model.specs.Collecting.{CollectedField}
use Rattle.collected_fields.specs.Views.{collected_field}
use Rattle.merged_selections.specs.Again.{IsFirstAsking}
use Rattle.merged_selections.proofs.known.first_asking.Given as goal

abbrev pub invariant-loop-field : goal.invariant-loop-field
invariant-loop-field l = (one : Option CollectedField) → IsFirstAsking (schema_data l.schema) (map collected_field (drop l.field-index l.fields)) one → IsFirstAsking (schema_data l.schema) (map collected_field l.fields) one
