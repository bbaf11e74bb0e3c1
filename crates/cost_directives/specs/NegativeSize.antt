-- An `assumedSize` is 0 or more.
use Rattle.std.specs.Prelude.{ℕ, ℤ, pos, int_lt, Bool, false, List, Option, None, Some}
use Rattle.schema_rules.specs.First.{first_of}
use Rattle.schema_model.specs.SchemaData.{FieldData, SizeData, SchemaData}
use Rattle.cost_directives.specs.Weights.{field_numbers}
use Rattle.cost_directives.specs.FieldPlaces.{is_sized, field_told}

abbrev pub is_below_zero : Option ℤ → Bool
is_below_zero None = false
is_below_zero (Some z) = int_lt z (pos 0)

abbrev pub assumes_less : SizeData → Bool
assumes_less size = is_below_zero size.assumed

abbrev pub is_negative : FieldData → Bool
is_negative f = is_sized assumes_less f.size

abbrev pub negative_size : SchemaData → Option (List ℕ)
negative_size s = first_of (field_told s is_negative) (field_numbers s)
