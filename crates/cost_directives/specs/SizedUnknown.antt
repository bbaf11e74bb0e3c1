-- Each name in `sizedFields` is that of a list field of the type that the field returns. A union has no fields.
use Rattle.std.specs.Prelude.{ℕ, Bool, false, not, List, Option, None, Some, find}
use Rattle.schema_rules.specs.First.{first_of}
use Rattle.schema_model.specs.SchemaData.{FieldData, SizeData, SchemaData, field_at, field_named}
use Rattle.cost_directives.specs.Weighing.{is_list_shape, type_inside}
use Rattle.cost_directives.specs.Weights.{field_numbers}
use Rattle.cost_directives.specs.FieldPlaces.{NameAt, name_in, name_told}

abbrev pub is_list_field : SchemaData → Option ℕ → Bool
is_list_field s None = false
is_list_field s (Some number) = is_list_shape (field_at s number).shape

abbrev pub is_no_list_field : SchemaData → ℕ → List ℕ → Bool
is_no_list_field s of name = not (is_list_field s (field_named s of name))

abbrev pub sized_of_none : SchemaData → ℕ → SizeData → Option (List ℕ)
sized_of_none s of size = find (is_no_list_field s of) size.sized

abbrev pub unknown_sized : SchemaData → FieldData → Option (List ℕ)
unknown_sized s f = name_in (sized_of_none s (type_inside f.shape)) f.size

abbrev pub sized_unknown : SchemaData → Option NameAt
sized_unknown s = first_of (name_told s (unknown_sized s)) (field_numbers s)
