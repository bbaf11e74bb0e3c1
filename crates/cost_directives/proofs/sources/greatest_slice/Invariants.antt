use Rattle.std.proofs.Common.{◌≡◌, drop, map}
use Rattle.schema_model.specs.Arguments.{arg_data}
use Rattle.cost_directives.specs.SizeSources.{greatest_slice}
use Rattle.cost_directives.proofs.sources.greatest_slice.Given as goal

-- It is the first of the greatest from here on.
abbrev pub invariant-loop-at : goal.invariant-loop-at
invariant-loop-at l = l.greatest ≡ greatest_slice (drop l.at l.places) (map arg_data l.args)
