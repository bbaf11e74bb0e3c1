use Rattle.std.proofs.Common.{◌+◌, ◌*◌, All, take, drop}
use Rattle.gql_base.specs.parts.Trees.{value_tree}
use Rattle.input_values.specs.inputs.Shapes.{shape_tree}
use Rattle.input_values.specs.coercion.Sizes.{items_written, fields_written, tree_size, items_size, fields_size}
use Rattle.literal_loads.specs.KnownInputs.{scale_of, placed_in, IsKnown, AreRight}
use Rattle.literal_loads.specs.Comparing.{IsSameAmong}
use Rattle.literal_loads.proofs.SameAnswers.{AreSameItems}
use Rattle.literal_loads.proofs.loads.Loads.+compares.Given as goal

abbrev pub invariant-are_same_lists-items : goal.invariant-are_same_lists-items
invariant-are_same_lists-items l = AreRight l.self → AreSameItems (scale_of l.self.of) (shape_tree l.item) l.at (drop l.at l.items) (drop l.at l.others)

abbrev pub invariant-are_same_inputs-written : goal.invariant-are_same_inputs-written
invariant-are_same_inputs-written l = AreRight l.self → IsKnown (scale_of l.self.of) l.known → All (IsSameAmong (scale_of l.self.of) (placed_in l.known) l.others) (take l.argument-index l.written)

abbrev pub decreases-are_same_literals : goal.decreases-are_same_literals
decreases-are_same_literals l = 3 * tree_size (value_tree l.value.now)

abbrev pub decreases-are_same_lists : goal.decreases-are_same_lists
decreases-are_same_lists l = 3 * items_size (items_written l.items.now) + 1

abbrev pub decreases-are_same_objects : goal.decreases-are_same_objects
decreases-are_same_objects l = 3 * fields_size (fields_written l.fields.now) + 2

abbrev pub decreases-are_same_inputs : goal.decreases-are_same_inputs
decreases-are_same_inputs l = 3 * fields_size (fields_written l.written.now) + 1

abbrev pub decreases-is_same_among : goal.decreases-is_same_among
decreases-is_same_among l = 3 * tree_size (value_tree l.argument.now.value) + 1
