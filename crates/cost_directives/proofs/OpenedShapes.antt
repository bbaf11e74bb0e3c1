-- The named type inside of a shape, level by level.
use Rattle.std.proofs.Common.{◌≡◌, Bool, Box, Global, ap}
use Rattle.input_values.specs.declared.inputs.shape.Shape.{Shape}
use Rattle.input_values.specs.declared.inputs.shape.TypeId.{TypeId}
use Rattle.input_values.specs.declared.inputs.shape.Shape.TheViews.{ListOf as ListShape}
use Rattle.input_values.specs.declared.inputs.shape.Shape.TheBlock.{Named as NamedShape}
use Rattle.input_values.specs.inputs.Shapes.{shape_tree}
use Rattle.input_values.proofs.ShapeTrees.{named_made, list_made}
use Rattle.cost_directives.specs.Weighing.{type_inside}

pub named_inside : (of : TypeId) (nullable : Bool) → type_inside (shape_tree (NamedShape of nullable)) ≡ of.number
unfolding type_inside
named_inside of nullable = ap type_inside (named_made of nullable)

pub list_inside : (item : Box Shape Global) (nullable : Bool) → type_inside (shape_tree (ListShape item nullable)) ≡ type_inside (shape_tree item.value)
unfolding type_inside
list_inside item nullable = ap type_inside (list_made item nullable)

pub ruleset opened_shapes = (named_inside, list_inside)
