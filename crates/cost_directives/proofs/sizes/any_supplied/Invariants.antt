use Rattle.std.proofs.Common.{◌≡◌, drop, map}
use Rattle.std.specs.List.{list_any}
use Rattle.schema_model.specs.Arguments.{arg_data}
use Rattle.cost_directives.specs.DeclaredSizes.{slicing_args, is_supplied}
use Rattle.cost_directives.proofs.sizes.any_supplied.Given as goal

-- What is left answers as the whole.
abbrev pub invariant-loop-place : goal.invariant-loop-place
invariant-loop-place l = list_any is_supplied (slicing_args (drop l.place-index l.places) (map arg_data l.args)) ≡ list_any is_supplied (slicing_args l.places (map arg_data l.args))
