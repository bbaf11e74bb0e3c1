use Rattle.std.proofs.Common.{sym}
use Rattle.input_values.specs.inputs.Shapes.{shape_tree}
use Rattle.input_values.specs.values.Coerced.{coerced_tree}
use Rattle.literal_loads.specs.KnownInputs.{scale_of}
use Rattle.literal_loads.proofs.LoadsOfPlaces.{held_everywhere}
use Rattle.literal_loads.proofs.loads.Loads.held_at.Goals as goal

pub returns : goal.returns
returns c = record { everywhere = held_everywhere (scale_of c.args.self.now.of) c.args.name.now (coerced_tree c.in_ok-value.value.now) (shape_tree c.args.shape.now) c.in_ok-load.load c.innermost.result.number c.in_ok-lists.lists (sym c.in_ok-value.ensures) c.in_ok-load.ensures c.innermost.ensures c.in_ok-lists.ensures }
