use Rattle.std.proofs.Common.{◌≡◌, drop, map, nat_eq}
use Rattle.std.specs.List.{list_any}
use Rattle.schema_model.specs.Numbers.{type_number}
use Rattle.collected_fields.proofs.reach.is_among.Given as goal

-- What is left answers as the whole.
abbrev pub invariant-loop-other : goal.invariant-loop-other
invariant-loop-other l = list_any (nat_eq l.of.number) (map type_number (drop l.other-index l.types)) ≡ list_any (nat_eq l.of.number) (map type_number l.types)
