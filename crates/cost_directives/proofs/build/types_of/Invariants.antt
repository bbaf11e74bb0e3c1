use Rattle.std.proofs.Common.{◌≡◌, map}
use Rattle.std.specs.List.{range_with_len}
use Rattle.schema_model.specs.Numbers.{type_number}
use Rattle.cost_directives.proofs.build.types_of.Given as goal

-- The numbers so far.
abbrev pub invariant-loop-number : goal.invariant-loop-number
invariant-loop-number l = map type_number l.types.items ≡ range_with_len 0 l.number
