use Rattle.std.proofs.Common.{◌≡◌, ◌++◌, [], drop, map}
use Rattle.std.specs.List.{filter_map}
use Rattle.input_values.specs.inputs.Definitions.{input_data}
use Rattle.cost_directives.specs.Weights.{place_in, each_once}
use Rattle.cost_directives.proofs.arguments.places_of.Given as goal

-- Those so far, and then those of what is left.
abbrev pub invariant-loop-name : goal.invariant-loop-name
invariant-loop-name l = l.places.items ++ each_once l.places.items (filter_map (place_in (map input_data l.arguments)) (drop l.name-index l.names)) ≡ each_once [] (filter_map (place_in (map input_data l.arguments)) l.names)
