use Rattle.std.proofs.Common.{◌≡◌, ◌++◌, map}
use Rattle.std.specs.Vec.Iter.{into_iter_items}
use Rattle.schema_reader.specs.Trees.{definition_tree}
use Rattle.schema_facts.specs.Facts.{known_type, reserved_in}
use Rattle.schema_facts.proofs.sorting.add_meta_types.Given as goal

abbrev pub invariant-definitions : goal.invariant-definitions
invariant-definitions l = map known_type l.types.items ++ reserved_in (map definition_tree (into_iter_items l.definition-iterator)) ≡ map known_type l.fn.types.items ++ reserved_in (map definition_tree l.fn.definitions.items)
