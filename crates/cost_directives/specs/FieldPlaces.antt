-- Where fields stand, and what tests of `@listSize` look at.
use Rattle.std.specs.Prelude.{ℕ, Bool, false, List, Option, None, Some, option_map}
use Rattle.schema_rules.specs.Places.{at_field, place_text}
use Rattle.schema_rules.specs.First.{fault_where}
use Rattle.schema_model.specs.SchemaData.{FieldData, SizeData, SchemaData, type_at, field_at}

abbrev pub place_of_field : SchemaData → FieldData → List ℕ
place_of_field s f = place_text (at_field (type_at s f.owner).name f.name)

-- a name of a list of `@listSize`, at the place of its field
pub record NameAt : Type 0 where
  pub place : List ℕ
  pub name : List ℕ

abbrev pub name_at : SchemaData → FieldData → List ℕ → NameAt
name_at s f name = record { place = place_of_field s f; name = name }

-- whether there is a size that has it
abbrev pub is_sized : (SizeData → Bool) → Option SizeData → Bool
is_sized test None = false
is_sized test (Some size) = test size

-- the name that is found in a size, if there is one
abbrev pub name_in : (SizeData → Option (List ℕ)) → Option SizeData → Option (List ℕ)
name_in find_name None = None
name_in find_name (Some size) = find_name size

-- at fault where it is so
abbrev pub field_told : SchemaData → (FieldData → Bool) → ℕ → Option (List ℕ)
field_told s is_wrong number = fault_where (is_wrong (field_at s number)) (place_of_field s (field_at s number))

-- at fault by a name
abbrev pub name_told : SchemaData → (FieldData → Option (List ℕ)) → ℕ → Option NameAt
name_told s wrong_name number = option_map (name_at s (field_at s number)) (wrong_name (field_at s number))
