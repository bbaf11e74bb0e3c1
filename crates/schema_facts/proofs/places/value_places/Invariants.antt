use Rattle.std.proofs.Common.{◌≡◌, ◌++◌, drop, map}
use Rattle.schema_reader.specs.Trees.{enum_value_tree}
use Rattle.schema_facts.specs.Places.{value_place}
use Rattle.schema_facts.proofs.places.value_places.Given as goal

abbrev pub invariant-values : goal.invariant-values
invariant-values l = l.places.items ++ map value_place (map enum_value_tree (drop l.value-index l.values)) ≡ map value_place (map enum_value_tree l.values)
