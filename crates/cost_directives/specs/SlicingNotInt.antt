-- Each argument in `slicingArguments` is of the type Int, where null may stand or not.
use Rattle.std.specs.Prelude.{ℕ, Bool, false, not, List, Option, None, Some, find, codes}
use Rattle.std.specs.Str.{bytes_eq}
use Rattle.gql_base.specs.names.Names.{first_of_name}
use Rattle.input_values.specs.inputs.Shapes.{ShapeTree, named_shape, list_shape}
use Rattle.input_values.specs.inputs.Definitions.{InputData}
use Rattle.schema_rules.specs.First.{first_of}
use Rattle.schema_model.specs.SchemaData.{FieldData, SizeData, SchemaData, type_at}
use Rattle.cost_directives.specs.Weights.{field_numbers, input_name}
use Rattle.cost_directives.specs.FieldPlaces.{NameAt, name_in, name_told}

abbrev pub is_int_shape : SchemaData → ShapeTree → Bool
is_int_shape s (named_shape of nullable) = bytes_eq (type_at s of).name (codes "Int")
is_int_shape s (list_shape item nullable) = false

-- whether an argument that is found has another type
abbrev pub is_no_int : SchemaData → Option InputData → Bool
is_no_int s None = false
is_no_int s (Some argument) = not (is_int_shape s argument.shape)

abbrev pub is_of_no_int : SchemaData → List InputData → List ℕ → Bool
is_of_no_int s arguments name = is_no_int s (first_of_name input_name arguments name)

abbrev pub slicing_of_no_int : SchemaData → List InputData → SizeData → Option (List ℕ)
slicing_of_no_int s arguments size = find (is_of_no_int s arguments) size.slicing

abbrev pub other_slicing : SchemaData → FieldData → Option (List ℕ)
other_slicing s f = name_in (slicing_of_no_int s f.arguments) f.size

abbrev pub slicing_not_int : SchemaData → Option NameAt
slicing_not_int s = first_of (name_told s (other_slicing s)) (field_numbers s)
