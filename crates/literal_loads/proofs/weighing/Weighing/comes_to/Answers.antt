use Rattle.std.proofs.Common.{subst}
use Rattle.input_values.specs.inputs.Shapes.{shape_tree}
use Rattle.literal_loads.specs.Loads.{ComesTo}
use Rattle.literal_loads.specs.KnownInputs.{scale_of}
use Rattle.literal_loads.proofs.weighing.Weighing.comes_to.Goals as goal

pub returns-in-Some : goal.returns-in-Some
returns-in-Some c = λ same. subst (ComesTo (scale_of c.args.self.now) (shape_tree c.args.shape.now) c.args.literal.now) (c.same_value.ensures same) c.in-Some.ensures
