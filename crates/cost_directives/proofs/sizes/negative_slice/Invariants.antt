use Rattle.std.proofs.Common.{◌≡◌, drop, map}
use Rattle.schema_model.specs.Arguments.{arg_data}
use Rattle.cost_directives.specs.DeclaredSizes.{slicing_args, negative_slice}
use Rattle.cost_directives.proofs.sizes.negative_slice.Given as goal

-- What is left answers as the whole.
abbrev pub invariant-loop-place : goal.invariant-loop-place
invariant-loop-place l = negative_slice (slicing_args (drop l.place-index l.places) (map arg_data l.args)) ≡ negative_slice (slicing_args l.places (map arg_data l.args))
