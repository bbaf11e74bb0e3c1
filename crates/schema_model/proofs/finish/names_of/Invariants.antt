use Rattle.std.proofs.Common.{◌≡◌, ◌++◌, drop, map}
use Rattle.schema_model.specs.DraftViews.{field_view}
use Rattle.schema_model.specs.Schemas.{field_name}
use Rattle.schema_model.proofs.finish.names_of.Given as goal

-- Those so far, and then those of what is left.
abbrev pub invariant-loop-field : goal.invariant-loop-field
invariant-loop-field l = l.names.items ++ map field_name (map field_view (drop l.field-index l.fields)) ≡ map field_name (map field_view l.fields)
