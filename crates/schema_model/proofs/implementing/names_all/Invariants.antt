use Rattle.std.proofs.Common.{◌≡◌, drop, map}
use Rattle.schema_model.specs.Numbers.{type_number}
use Rattle.schema_model.specs.Implementing.{names_all}
use Rattle.schema_model.proofs.implementing.names_all.Given as goal

-- What is left answers as the whole.
abbrev pub invariant-loop-number : goal.invariant-loop-number
invariant-loop-number l = names_all (map type_number l.own.numbers.now) (map type_number (drop l.number-index l.needed)) ≡ names_all (map type_number l.own.numbers.now) (map type_number l.needed)
