use Rattle.std.proofs.Common.{◌≡◌, drop, map, nat_eq}
use Rattle.schema_model.specs.Numbers.{type_number}
use Rattle.std.specs.List.{list_any}
use Rattle.schema_model.proofs.marks.has_number.Given as goal

-- What is left answers as the whole.
abbrev pub invariant-loop-number : goal.invariant-loop-number
invariant-loop-number l = list_any (nat_eq l.wanted) (map type_number (drop l.number-index l.numbers)) ≡ list_any (nat_eq l.wanted) (map type_number l.numbers)
