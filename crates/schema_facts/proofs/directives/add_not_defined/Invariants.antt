use Rattle.std.proofs.Common.{◌≡◌, ◌++◌, map}
use Rattle.std.specs.Vec.Iter.{into_iter_items}
use Rattle.schema_reader.specs.Trees.{definition_tree}
use Rattle.schema_facts.specs.Facts.{not_defined}
use Rattle.schema_facts.proofs.directives.add_not_defined.Given as goal

abbrev pub invariant-definitions : goal.invariant-definitions
invariant-definitions l = map definition_tree l.directives.items ++ not_defined (map definition_tree l.text) (map definition_tree (into_iter_items l.definition-iterator)) ≡ map definition_tree l.fn.directives.items ++ not_defined (map definition_tree l.text) (map definition_tree l.fn.definitions.items)
