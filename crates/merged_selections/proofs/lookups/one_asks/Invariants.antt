use Rattle.std.proofs.Common.{◌≡◌, drop, map}
use Rattle.std.specs.List.{list_any}
use Rattle.schema_model.specs.SchemaViews.{schema_data}
use Rattle.collected_fields.specs.Views.{collected_field, asks_in}
use Rattle.merged_selections.proofs.lookups.one_asks.Given as goal

abbrev pub invariant-loop-field : goal.invariant-loop-field
invariant-loop-field l = list_any (asks_in (schema_data l.schema)) (map collected_field (drop l.field-index l.fields)) ≡ list_any (asks_in (schema_data l.schema)) (map collected_field l.fields)
