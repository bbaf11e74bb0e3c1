use Rattle.std.proofs.Common.{◌≡◌, ◌++◌, drop, map}
use Rattle.schema_reader.specs.Trees.{enum_value_tree}
use Rattle.schema_facts.specs.Things.{thing_data, an_enum_value}
use Rattle.schema_facts.specs.Shown.{picked}
use Rattle.schema_facts.proofs.bodies.picked_values.Given as goal

abbrev pub invariant-numbers : goal.invariant-numbers
invariant-numbers l = map thing_data l.things.items ++ picked an_enum_value (map enum_value_tree l.values) (drop l.number-index l.numbers) ≡ picked an_enum_value (map enum_value_tree l.values) l.numbers
