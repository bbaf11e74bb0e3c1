use Rattle.std.proofs.Common.{◌≡◌, ◌++◌, drop, map}
use Rattle.schema_reader.specs.Trees.{input_tree}
use Rattle.schema_facts.specs.Things.{thing_data, an_input}
use Rattle.schema_facts.proofs.bodies.inputs.Given as goal

abbrev pub invariant-values : goal.invariant-values
invariant-values l = map thing_data l.things.items ++ map an_input (map input_tree (drop l.value-index l.values)) ≡ map an_input (map input_tree l.values)
