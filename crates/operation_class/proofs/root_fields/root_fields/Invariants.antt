use Rattle.std.proofs.Common.{◌≡◌, ◌+◌, length}
use Rattle.document_reader.specs.Trees.{set_tree}
use Rattle.operation_class.specs.RootFields.{root_fields}
use Rattle.operation_class.specs.Steps.{data_of, unvisited}
use Rattle.operation_class.proofs.WalkSteps.{Walks}
use Rattle.operation_class.proofs.root_fields.root_fields.Given as goal

abbrev pub invariant-parts : goal.invariant-parts
invariant-parts l = record {
  marked : length l.visited.items ≡ length l.fragments.items.items;
  walks : Walks l.fragments.items.items l.names.items l.visited.items l.parts.items (root_fields (data_of l.fragments.items.items) (set_tree l.selections));
}

abbrev pub decreases-parts : goal.decreases-parts
decreases-parts l = length l.parts.items + unvisited l.visited.items (data_of l.fragments.items.items)
