-- The named type inside of a shape, level by level.
use Rattle.cost_directives.proofs.OpenedShapes.{named_inside, list_inside}

pub ruleset opened_shapes = (named_inside, list_inside)
