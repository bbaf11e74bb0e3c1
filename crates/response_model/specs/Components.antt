-- The parts of a cost, as programs name them.
use Rattle.response_model.specs.Cost.{Part as CostPart, types, fields}
use Rattle.response_model.specs.declared.part.Part.{Part}
use Rattle.response_model.specs.declared.part.Part.TheVariants.{Types, Fields}

-- the part of the cost that a component is
abbrev pub part_of : Part → CostPart
part_of Types = types
part_of Fields = fields
