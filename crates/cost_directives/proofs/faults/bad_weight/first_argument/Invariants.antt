use Rattle.std.proofs.Common.{◌≡◌, drop, map}
use Rattle.input_values.specs.inputs.Definitions.{input_data}
use Rattle.schema_rules.specs.First.{first_of}
use Rattle.cost_directives.specs.BadWeight.{bad_argument}
use Rattle.cost_directives.proofs.faults.bad_weight.first_argument.Given as goal

-- What is left answers as the whole.
abbrev pub invariant-loop-argument : goal.invariant-loop-argument
invariant-loop-argument l = first_of (bad_argument l.of l.field) (map input_data (drop l.argument-index l.arguments)) ≡ first_of (bad_argument l.of l.field) (map input_data l.arguments)
