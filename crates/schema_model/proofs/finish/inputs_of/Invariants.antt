use Rattle.std.proofs.Common.{◌≡◌, ◌++◌, drop, map}
use Rattle.schema_model.specs.DraftViews.{input_view}
use Rattle.schema_model.specs.Schemas.{input_of}
use Rattle.input_values.specs.inputs.Definitions.{input_data}
use Rattle.schema_model.proofs.finish.inputs_of.Given as goal

-- Those so far, and then those of what is left.
abbrev pub invariant-loop-input : goal.invariant-loop-input
invariant-loop-input g l = map input_data l.made.items ++ map (input_of (g.T.InputTypes.forms l.forms)) (map input_view (drop l.input-index l.inputs)) ≡ map (input_of (g.T.InputTypes.forms l.forms)) (map input_view l.inputs)
