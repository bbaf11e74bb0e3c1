use Rattle.std.proofs.Common.{◌≡◌, ◌++◌, drop, map, filter}
use Rattle.schema_model.specs.Numbers.{type_number}
use Rattle.collected_fields.specs.Reached.{reaches}
use Rattle.collected_fields.proofs.reach.those_among.Given as goal

abbrev pub invariant-loop-of : goal.invariant-loop-of
invariant-loop-of l = map type_number l.some.items ++ filter (reaches l.reach) (map type_number (drop l.of-index l.types)) ≡ filter (reaches l.reach) (map type_number l.types)
