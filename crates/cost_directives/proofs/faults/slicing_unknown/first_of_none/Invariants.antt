use Rattle.std.proofs.Common.{◌≡◌, drop, map, find}
use Rattle.input_values.specs.inputs.Definitions.{input_data}
use Rattle.cost_directives.specs.SlicingUnknown.{is_no_argument}
use Rattle.cost_directives.proofs.faults.slicing_unknown.first_of_none.Given as goal

-- What is left answers as the whole.
abbrev pub invariant-loop-name : goal.invariant-loop-name
invariant-loop-name l = find (is_no_argument (map input_data l.arguments)) (drop l.name-index l.names) ≡ find (is_no_argument (map input_data l.arguments)) l.names
