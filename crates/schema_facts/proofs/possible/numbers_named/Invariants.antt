use Rattle.std.proofs.Common.{◌≡◌, ◌++◌, drop, map}
use Rattle.schema_facts.specs.Facts.{known_type, number_named}
use Rattle.schema_facts.proofs.possible.numbers_named.Given as goal

abbrev pub invariant-names : goal.invariant-names
invariant-names l = l.numbers.items ++ map (number_named (map known_type l.types.items.items)) (drop l.name-index l.names) ≡ map (number_named (map known_type l.types.items.items)) l.names
