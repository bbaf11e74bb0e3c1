use Rattle.std.proofs.Common.{◌≡◌, drop, map}
use Rattle.input_values.specs.inputs.Definitions.{input_data}
use Rattle.schema_rules.specs.First.{first_of}
use Rattle.cost_directives.specs.BadWeight.{bad_input}
use Rattle.cost_directives.proofs.faults.bad_weight.first_input.Given as goal

-- What is left answers as the whole.
abbrev pub invariant-loop-input : goal.invariant-loop-input
invariant-loop-input l = first_of (bad_input l.of) (map input_data (drop l.input-index l.inputs)) ≡ first_of (bad_input l.of) (map input_data l.inputs)
