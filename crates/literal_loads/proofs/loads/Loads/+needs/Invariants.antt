use Rattle.std.proofs.Common.{◌≡◌, ◌+◌, ◌*◌}
use Rattle.gql_base.specs.parts.Trees.{value_tree}
use Rattle.input_values.specs.coercion.Sizes.{items_written, fields_written, tree_size, items_size, fields_size}
use Rattle.literal_loads.specs.KnownInputs.{AreRight}
use Rattle.literal_loads.proofs.loads.Loads.+needs.Given as goal

abbrev pub invariant-learn_items-items : goal.invariant-learn_items-items
invariant-learn_items-items l = record {
  of : l.self.of ≡ l.initial.self.of;
  right : AreRight l.initial.self → AreRight l.self;
}

abbrev pub invariant-learn_inputs-written : goal.invariant-learn_inputs-written
invariant-learn_inputs-written l = record {
  of : l.self.of ≡ l.initial.self.of;
  right : AreRight l.initial.self → AreRight l.self;
}

abbrev pub decreases-learn : goal.decreases-learn
decreases-learn l = 2 * tree_size (value_tree l.value.now)

abbrev pub decreases-learn_items : goal.decreases-learn_items
decreases-learn_items l = 2 * items_size (items_written l.items.now) + 1

abbrev pub decreases-learn_input : goal.decreases-learn_input
decreases-learn_input l = 2 * tree_size (value_tree l.argument.now.value) + 1

abbrev pub decreases-learn_inputs : goal.decreases-learn_inputs
decreases-learn_inputs l = 2 * fields_size (fields_written l.written.now) + 1
