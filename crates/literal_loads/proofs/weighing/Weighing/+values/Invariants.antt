use Rattle.std.proofs.Common.{map}
use Rattle.input_values.specs.inputs.Shapes.{shape_tree}
use Rattle.cost_directives.specs.WeightViews.{input_weight}
use Rattle.literal_loads.specs.KnownInputs.{scale_of}
use Rattle.literal_loads.proofs.ValuesTogether.{AreSummed}
use Rattle.literal_loads.proofs.ObjectsTogether.{AreFieldsSummed}
use Rattle.literal_loads.proofs.weighing.Weighing.+values.Given as goal

abbrev pub invariant-items_together-items : goal.invariant-items_together-items
invariant-items_together-items l = AreSummed (scale_of l.self) (shape_tree l.item) l.items l.value-index l.sum

abbrev pub invariant-fields_together-fields : goal.invariant-fields_together-fields
invariant-fields_together-fields l = AreFieldsSummed (scale_of l.self) (map input_weight l.inputs) l.fields l.field-index l.sum
