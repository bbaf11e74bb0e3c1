use Rattle.std.proofs.Common.{refl}
use Rattle.input_values.specs.values.Coerced.{coerced_tree}
use Rattle.input_values.specs.inputs.Shapes.{shape_tree}
use Rattle.literal_loads.specs.KnownInputs.{scale_of}
use Rattle.literal_loads.proofs.WrittenPlaces.{same_by_likeness, same_by_value}
use Rattle.literal_loads.proofs.weighing.Weighing.are_same_built.Goals as goal

pub returns-then-same_variable : goal.returns-then-same_variable
returns-then-same_variable c = λ same. same_by_likeness (scale_of c.args.self.now) (shape_tree c.args.shape.now) c.args.literal.now c.args.other.now (c.if-same_variable.ensures refl)

pub returns-in-Some : goal.returns-in-Some
returns-in-Some c = λ same. same_by_value (scale_of c.args.self.now) (shape_tree c.args.shape.now) c.args.literal.now c.args.other.now (coerced_tree c.in-Some.built) c.in-Some.ensures (c.comes_to.ensures same)
