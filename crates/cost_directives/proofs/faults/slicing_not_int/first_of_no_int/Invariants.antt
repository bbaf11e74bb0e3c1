use Rattle.std.proofs.Common.{◌≡◌, drop, map, find}
use Rattle.input_values.specs.inputs.Definitions.{input_data}
use Rattle.schema_model.specs.SchemaViews.{schema_data}
use Rattle.cost_directives.specs.SlicingNotInt.{is_of_no_int}
use Rattle.cost_directives.proofs.faults.slicing_not_int.first_of_no_int.Given as goal

-- What is left answers as the whole.
abbrev pub invariant-loop-name : goal.invariant-loop-name
invariant-loop-name l = find (is_of_no_int (schema_data l.schema) (map input_data l.arguments)) (drop l.name-index l.names) ≡ find (is_of_no_int (schema_data l.schema) (map input_data l.arguments)) l.names
