use Rattle.std.proofs.Common.{◌≡◌, ◌++◌, drop, map}
use Rattle.schema_model.specs.Numbers.{type_number}
use Rattle.schema_model.proofs.finish.copied_numbers.Given as goal

-- Those so far, and then those of what is left.
abbrev pub invariant-loop-number : goal.invariant-loop-number
invariant-loop-number l = map type_number l.copies.items ++ map type_number (drop l.number-index l.numbers) ≡ map type_number l.numbers
