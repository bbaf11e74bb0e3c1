-- Each name in `slicingArguments` is that of an argument of the field.
use Rattle.std.specs.Prelude.{ℕ, Bool, List, Option, is_none, find}
use Rattle.gql_base.specs.names.Names.{first_of_name}
use Rattle.input_values.specs.inputs.Definitions.{InputData}
use Rattle.schema_rules.specs.First.{first_of}
use Rattle.schema_model.specs.SchemaData.{FieldData, SizeData, SchemaData}
use Rattle.cost_directives.specs.Weights.{field_numbers, input_name}
use Rattle.cost_directives.specs.FieldPlaces.{NameAt, name_in, name_told}

abbrev pub is_no_argument : List InputData → List ℕ → Bool
is_no_argument arguments name = is_none (first_of_name input_name arguments name)

abbrev pub slicing_of_none : List InputData → SizeData → Option (List ℕ)
slicing_of_none arguments size = find (is_no_argument arguments) size.slicing

abbrev pub unknown_slicing : FieldData → Option (List ℕ)
unknown_slicing f = name_in (slicing_of_none f.arguments) f.size

abbrev pub slicing_unknown : SchemaData → Option NameAt
slicing_unknown s = first_of (name_told s unknown_slicing) (field_numbers s)
