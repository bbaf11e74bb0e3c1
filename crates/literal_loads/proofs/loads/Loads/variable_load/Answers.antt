use Rattle.std.proofs.Common.{refl, sym}
use Rattle.input_values.specs.values.Coerced.{coerced_tree}
use Rattle.input_values.specs.inputs.Shapes.{shape_tree}
use Rattle.literal_loads.specs.KnownInputs.{scale_of}
use Rattle.literal_loads.proofs.LoadsOfPlaces.{variable_weighs, no_variable_weighs}
use Rattle.literal_loads.proofs.loads.Loads.variable_load.Goals as goal

pub returns-in-Some-held_load : goal.returns-in-Some-held_load
returns-in-Some-held_load c = λ right.
    let t = coerced_tree c.in-Some.value.now in
    variable_weighs (scale_of c.args.self.now.of) (shape_tree c.args.shape.now) c.args.name.now t c.in-Some-held_load.load (sym c.in-Some.ensures) (c.if-not-fits.ensures refl) (c.in-Some-held_load.ensures right t (sym c.in-Some.ensures))

pub returns-then-is_nullable : goal.returns-then-is_nullable
returns-then-is_nullable c = λ right. no_variable_weighs (scale_of c.args.self.now.of) (shape_tree c.args.shape.now) c.args.name.now record { nodes = 1; leaves = 0; objects = 0; inside = 0 } (sym c.in-None.ensures) (sym c.if-is_nullable.ensures) refl refl refl refl
