use Rattle.std.proofs.Common.{◌≡◌, drop, map}
use Rattle.std.specs.List.{position_from}
use Rattle.std.specs.Str.{bytes_eq}
use Rattle.input_values.specs.inputs.Definitions.{input_data}
use Rattle.cost_directives.specs.Weights.{input_name, place_in}
use Rattle.cost_directives.proofs.arguments.place_in.Given as goal

-- What is left answers as the whole.
abbrev pub invariant-loop-at : goal.invariant-loop-at
invariant-loop-at l = position_from (λ d. bytes_eq (input_name d) l.name) l.at (map input_data (drop l.at l.arguments)) ≡ place_in (map input_data l.arguments) l.name
