use Rattle.std.proofs.Common.{◌≡◌, drop, map}
use Rattle.schema_model.specs.Arguments.{arg_data}
use Rattle.cost_directives.specs.DeclaredSizes.{slicing_args, slices_of, greatest_of}
use Rattle.cost_directives.proofs.sizes.greatest_slice.Given as goal

-- It is the greatest of those from here on.
abbrev pub invariant-loop-at : goal.invariant-loop-at
invariant-loop-at l = l.greatest ≡ greatest_of (slices_of (slicing_args (drop l.at l.places) (map arg_data l.args)))
