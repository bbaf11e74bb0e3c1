use Rattle.std.proofs.Common.{◌≡◌, ◌++◌, drop, map}
use Rattle.input_values.specs.defaults.Filling.{field_draft}
use Rattle.schema_model.specs.Defaults.{asked_field}
use Rattle.schema_model.specs.DraftViews.{input_view}
use Rattle.schema_model.proofs.asked.asked_fields.Given as goal

-- Those so far, and then those of what is left.
abbrev pub invariant-loop-input : goal.invariant-loop-input
invariant-loop-input l = map field_draft l.fields.items ++ map asked_field (map input_view (drop l.input-index l.inputs)) ≡ map asked_field (map input_view l.inputs)
