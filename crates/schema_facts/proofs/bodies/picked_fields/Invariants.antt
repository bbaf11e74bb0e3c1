use Rattle.std.proofs.Common.{◌≡◌, ◌++◌, drop, map}
use Rattle.schema_reader.specs.Trees.{field_tree}
use Rattle.schema_facts.specs.Things.{thing_data, a_field}
use Rattle.schema_facts.specs.Shown.{picked}
use Rattle.schema_facts.proofs.bodies.picked_fields.Given as goal

abbrev pub invariant-numbers : goal.invariant-numbers
invariant-numbers l = map thing_data l.things.items ++ picked a_field (map field_tree l.fields) (drop l.number-index l.numbers) ≡ picked a_field (map field_tree l.fields) l.numbers
