use Rattle.std.proofs.Common.{◌≡◌, ◌++◌, drop, map}
use Rattle.schema_reader.specs.Trees.{definition_tree}
use Rattle.schema_facts.specs.Things.{thing_data, a_directive}
use Rattle.schema_facts.proofs.table.directives.Given as goal

abbrev pub invariant-of : goal.invariant-of
invariant-of l = map thing_data l.things.items ++ map a_directive (map definition_tree (drop l.directive-index l.of)) ≡ map a_directive (map definition_tree l.of)
