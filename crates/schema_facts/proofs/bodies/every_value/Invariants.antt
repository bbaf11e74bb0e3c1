use Rattle.std.proofs.Common.{◌≡◌, ◌++◌, drop, map}
use Rattle.schema_reader.specs.Trees.{enum_value_tree}
use Rattle.schema_facts.specs.Things.{thing_data, an_enum_value}
use Rattle.schema_facts.proofs.bodies.every_value.Given as goal

abbrev pub invariant-values : goal.invariant-values
invariant-values l = map thing_data l.things.items ++ map an_enum_value (map enum_value_tree (drop l.number l.values)) ≡ map an_enum_value (map enum_value_tree l.values)
