use Rattle.std.proofs.Common.{◌≡◌, drop, map}
use Rattle.gql_base.specs.names.Names.{first_of_name}
use Rattle.input_values.specs.inputs.Definitions.{input_data}
use Rattle.cost_directives.specs.Weights.{input_name}
use Rattle.cost_directives.proofs.arguments.argument_named.Given as goal

-- What is left answers as the whole.
abbrev pub invariant-loop-argument : goal.invariant-loop-argument
invariant-loop-argument l = first_of_name input_name (map input_data (drop l.argument-index l.arguments)) l.name ≡ first_of_name input_name (map input_data l.arguments) l.name
