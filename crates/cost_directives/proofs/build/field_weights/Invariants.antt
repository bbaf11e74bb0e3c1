use Rattle.std.proofs.Common.{◌≡◌, ◌++◌, drop, map}
use Rattle.schema_model.specs.SchemaViews.{schema_data}
use Rattle.schema_model.specs.Entries.{field_number}
use Rattle.cost_directives.specs.Weights.{field_weight_at}
use Rattle.cost_directives.specs.WeightViews.{field_weight}
use Rattle.cost_directives.proofs.build.field_weights.Given as goal

-- Those so far, and then those of what is left.
abbrev pub invariant-loop-field : goal.invariant-loop-field
invariant-loop-field l = map field_weight l.made.items ++ map (field_weight_at (schema_data l.schema)) (map field_number (drop l.field-index l.fields)) ≡ map (field_weight_at (schema_data l.schema)) (map field_number l.fields)
