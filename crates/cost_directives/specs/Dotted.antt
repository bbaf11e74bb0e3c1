-- A name in `slicingArguments` or `sizedFields` is one name: paths with dots aren't taken.
use Rattle.std.specs.Prelude.{ℕ, Bool, nat_eq, ◌||◌, List, Option}
use Rattle.std.specs.List.{list_any}
use Rattle.schema_rules.specs.First.{first_of}
use Rattle.schema_model.specs.SchemaData.{FieldData, SizeData, SchemaData}
use Rattle.cost_directives.specs.Weights.{field_numbers}
use Rattle.cost_directives.specs.FieldPlaces.{is_sized, field_told}

abbrev pub is_dot : ℕ → Bool
is_dot c = nat_eq c 46

abbrev pub has_dot : List ℕ → Bool
has_dot name = list_any is_dot name

abbrev pub any_dotted : List (List ℕ) → Bool
any_dotted names = list_any has_dot names

abbrev pub names_a_path : SizeData → Bool
names_a_path size = any_dotted size.slicing || any_dotted size.sized

abbrev pub is_dotted : FieldData → Bool
is_dotted f = is_sized names_a_path f.size

abbrev pub dotted : SchemaData → Option (List ℕ)
dotted s = first_of (field_told s is_dotted) (field_numbers s)
