-- A field with `@listSize` that hands no size down is a list.
use Rattle.std.specs.Prelude.{ℕ, Bool, not, ◌&&◌, List, Option}
use Rattle.schema_rules.specs.First.{first_of}
use Rattle.schema_model.specs.SchemaData.{FieldData, SizeData, SchemaData}
use Rattle.cost_directives.specs.DeclaredSizes.{is_empty}
use Rattle.cost_directives.specs.Weighing.{is_list_shape}
use Rattle.cost_directives.specs.Weights.{field_numbers}
use Rattle.cost_directives.specs.FieldPlaces.{is_sized, field_told}

abbrev pub hands_nothing : Bool → SizeData → Bool
hands_nothing is_list size = is_empty size.sized && not is_list

abbrev pub is_no_list : FieldData → Bool
is_no_list f = is_sized (hands_nothing (is_list_shape f.shape)) f.size

abbrev pub not_a_list : SchemaData → Option (List ℕ)
not_a_list s = first_of (field_told s is_no_list) (field_numbers s)
