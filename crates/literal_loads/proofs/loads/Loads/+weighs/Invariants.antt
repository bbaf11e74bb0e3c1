use Rattle.std.proofs.Common.{◌+◌, ◌*◌, drop}
use Rattle.gql_base.specs.parts.Trees.{value_tree}
use Rattle.input_values.specs.inputs.Shapes.{shape_tree}
use Rattle.input_values.specs.coercion.Sizes.{items_written, fields_written, tree_size, items_size, fields_size}
use Rattle.literal_loads.specs.KnownInputs.{scale_of, placed_in, IsKnown, AreRight}
use Rattle.literal_loads.specs.Sums.{IsSum}
use Rattle.literal_loads.specs.Walks.{AreInputs}
use Rattle.literal_loads.proofs.ItemsTogether.{ItemsWeigh}
use Rattle.literal_loads.proofs.loads.Loads.+weighs.Given as goal

abbrev pub invariant-items_load-items : goal.invariant-items_load-items
invariant-items_load-items l = AreRight l.self → ItemsWeigh (scale_of l.self.of) (shape_tree l.item) l.at (drop l.at l.items) l.sum

abbrev pub invariant-inputs_sum-written : goal.invariant-inputs_sum-written
invariant-inputs_sum-written l = record {
  inputs : AreRight l.self → IsKnown (scale_of l.self.of) l.known → AreInputs (placed_in l.known) (drop l.at l.written);
  sums : AreRight l.self → IsKnown (scale_of l.self.of) l.known → IsSum (scale_of l.self.of) (placed_in l.known) (drop l.at l.written) l.sum;
}

abbrev pub decreases-literal_load : goal.decreases-literal_load
decreases-literal_load l = 3 * tree_size (value_tree l.value.now)

abbrev pub decreases-items_load : goal.decreases-items_load
decreases-items_load l = 3 * items_size (items_written l.items.now) + 1

abbrev pub decreases-input_load : goal.decreases-input_load
decreases-input_load l = 3 * fields_size (fields_written l.fields.now) + 2

abbrev pub decreases-inputs_sum : goal.decreases-inputs_sum
decreases-inputs_sum l = 3 * fields_size (fields_written l.written.now) + 1

abbrev pub decreases-one_more : goal.decreases-one_more
decreases-one_more l = 3 * tree_size (value_tree l.argument.now.value) + 1
