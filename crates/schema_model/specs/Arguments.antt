-- The arguments of a field of an operation (GraphQL October 2021, 6.4.1).
use Rattle.std.specs.Prelude.{Bool, List, map, Option, option_map}
use Rattle.input_values.specs.values.Coerced.{CoercedTree, coerced_tree}
use Rattle.schema_model.specs.declared.args.Arg.{Arg}
use Rattle.schema_model.specs.declared.args.Args.{Args}

-- an argument by its coerced value, if it has one, and whether a value is supplied for it
pub record ArgData : Type 0 where
  pub value : Option CoercedTree
  pub supplied : Bool

abbrev pub arg_data : Arg → ArgData
arg_data a = record { value = option_map coerced_tree a.value; supplied = a.supplied }

abbrev pub args_data : Args → List ArgData
args_data args = map arg_data args.list.items
