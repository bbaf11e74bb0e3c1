use Rattle.std.proofs.Common.{◌≡◌, ◌++◌, drop, map}
use Rattle.schema_reader.specs.Trees.{field_tree}
use Rattle.schema_facts.specs.Things.{thing_data, a_field}
use Rattle.schema_facts.proofs.bodies.every_field.Given as goal

abbrev pub invariant-fields : goal.invariant-fields
invariant-fields l = map thing_data l.things.items ++ map a_field (map field_tree (drop l.number l.fields)) ≡ map a_field (map field_tree l.fields)
