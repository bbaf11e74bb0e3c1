-- Definitions of arguments and input fields.
use Rattle.std.specs.Prelude.{ℕ, List, Option, option_map}
use Rattle.input_values.specs.values.Coerced.{CoercedTree, coerced_tree}
use Rattle.input_values.specs.inputs.Shapes.{ShapeTree, shape_tree}
use Rattle.input_values.specs.declared.inputs.definition.InputDef.{InputDef}

pub record InputData : Type 0 where
  pub name : List ℕ
  pub shape : ShapeTree
  pub default : Option CoercedTree
  pub cost : Option (List ℕ)

-- what a definition says
abbrev pub input_data : InputDef → InputData
input_data d = record { name = d.name; shape = shape_tree d.shape; default = option_map coerced_tree d.default; cost = d.cost }
