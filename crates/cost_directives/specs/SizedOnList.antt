-- A field that hands its size down is no list.
use Rattle.std.specs.Prelude.{ℕ, Bool, not, ◌&&◌, List, Option}
use Rattle.schema_rules.specs.First.{first_of}
use Rattle.schema_model.specs.SchemaData.{FieldData, SizeData, SchemaData}
use Rattle.cost_directives.specs.DeclaredSizes.{is_empty}
use Rattle.cost_directives.specs.Weighing.{is_list_shape}
use Rattle.cost_directives.specs.Weights.{field_numbers}
use Rattle.cost_directives.specs.FieldPlaces.{is_sized, field_told}

abbrev pub hands_some : Bool → SizeData → Bool
hands_some is_list size = not (is_empty size.sized) && is_list

abbrev pub is_sized_list : FieldData → Bool
is_sized_list f = is_sized (hands_some (is_list_shape f.shape)) f.size

abbrev pub sized_on_list : SchemaData → Option (List ℕ)
sized_on_list s = first_of (field_told s is_sized_list) (field_numbers s)
