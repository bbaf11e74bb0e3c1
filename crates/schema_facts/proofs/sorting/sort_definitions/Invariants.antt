use Rattle.std.proofs.Common.{◌≡◌, ◌++◌, map}
use Rattle.std.specs.Vec.Iter.{into_iter_items}
use Rattle.schema_reader.specs.Trees.{definition_tree}
use Rattle.schema_facts.specs.Facts.{known_type, types_in, directives_in}
use Rattle.schema_facts.proofs.sorting.sort_definitions.Given as goal

abbrev pub invariant-definitions : goal.invariant-definitions
invariant-definitions l = record {
  types : map known_type l.types.items ++ types_in (map definition_tree (into_iter_items l.definition-iterator)) ≡ map known_type l.fn.types.items ++ types_in (map definition_tree l.fn.definitions.items);
  directives : map definition_tree l.directives.items ++ directives_in (map definition_tree (into_iter_items l.definition-iterator)) ≡ map definition_tree l.fn.directives.items ++ directives_in (map definition_tree l.fn.definitions.items);
}
