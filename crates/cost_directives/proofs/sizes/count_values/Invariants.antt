use Rattle.std.proofs.Common.{◌≡◌, ◌≤◌, ◌+◌, drop, map, length}
use Rattle.std.specs.List.{filter}
use Rattle.schema_model.specs.Arguments.{arg_data}
use Rattle.cost_directives.specs.DeclaredSizes.{slicing_args, has_value}
use Rattle.cost_directives.proofs.sizes.count_values.Given as goal

-- Those so far and those of what is left are all.
abbrev pub invariant-loop-at : goal.invariant-loop-at
invariant-loop-at l = record {
  sum : l.count + length (filter has_value (slicing_args (drop l.at l.places) (map arg_data l.args))) ≡ length (filter has_value (slicing_args l.places (map arg_data l.args)));
  within : l.count ≤ l.at;
}
