-- Shapes that are opened or made.
use Rattle.std.proofs.Common.{◌≡◌, Bool, Box, Global}
use Rattle.input_values.specs.declared.inputs.shape.Shape.{Shape}
use Rattle.input_values.specs.declared.inputs.shape.TypeId.{TypeId}
use Rattle.input_values.specs.declared.inputs.shape.Shape.TheOpen.{Shape-F}
use Rattle.input_values.specs.declared.inputs.shape.Shape.TheFolds.{fold-roll-Shape}
use Rattle.input_values.specs.declared.inputs.shape.Shape.TheViews.{ListOf as ListShape}
use Rattle.input_values.specs.declared.inputs.shape.Shape.TheBlock.{Named as NamedShape}
use Rattle.input_values.specs.inputs.Shapes.{ShapeTree, named_shape, list_shape, shape_step, shape_tree}

pub named_made : (of : TypeId) (nullable : Bool) → shape_tree (NamedShape of nullable) ≡ named_shape of.number nullable
unfolding shape_tree Rattle.input_values.specs.declared.inputs.shape.Shape.TheViews.roll-Shape denote.Hole.Carrier.roll
named_made of nullable = fold-roll-Shape ShapeTree shape_step (Shape-F.Named of nullable)

pub list_made : (item : Box Shape Global) (nullable : Bool) → shape_tree (ListShape item nullable) ≡ list_shape (shape_tree item.value) nullable
unfolding shape_tree Rattle.input_values.specs.declared.inputs.shape.Shape.TheViews.roll-Shape denote.Hole.Carrier.roll
list_made item nullable = fold-roll-Shape ShapeTree shape_step (Shape-F.ListOf item nullable)

pub ruleset shape_levels = (named_made, list_made)
