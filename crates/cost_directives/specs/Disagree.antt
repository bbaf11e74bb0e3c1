-- The interfaces of an object type agree on what its fields take from them: on the weight of a field that has none of its
-- own, as a number; and likewise on its `@listSize`, by the values of the four arguments, where an absent list is the empty one.
use Rattle.std.specs.Prelude.{ℕ, ℤ, int_le, Bool, true, false, not, nat_eq, ◌&&◌, List, [], ◌∷◌, Option, None, Some}
use Rattle.std.specs.Str.{bytes_eq}
use Rattle.schema_rules.specs.Kinds.{is_object}
use Rattle.schema_rules.specs.First.{first_of}
use Rattle.schema_model.specs.SchemaData.{FieldData, SizeData, SchemaData, type_at}
use Rattle.cost_directives.specs.Weighing.{own_weight, own_size, is_clear}
use Rattle.cost_directives.specs.Weights.{field_numbers}
use Rattle.cost_directives.specs.FieldPlaces.{field_told}

abbrev pub same_int : Option ℤ → Option ℤ → Bool
same_int None None = true
same_int None (Some b) = false
same_int (Some a) None = false
same_int (Some a) (Some b) = int_le a b && int_le b a

abbrev pub same_names : List (List ℕ) → List (List ℕ) → Bool
same_names [] [] = true
same_names [] (b ∷ others) = false
same_names (a ∷ names) [] = false
same_names (a ∷ names) (b ∷ others) = bytes_eq a b && same_names names others

abbrev pub same_truth : Bool → Bool → Bool
same_truth true b = b
same_truth false b = not b

abbrev pub same_size : SizeData → SizeData → Bool
same_size a b = same_int a.assumed b.assumed && (same_truth a.require_one b.require_one && (same_names a.slicing b.slicing && same_names a.sized b.sized))

-- whether a field is an object's, and it isn't clear what it weighs or what its size is
abbrev pub is_unclear : SchemaData → FieldData → Bool
is_unclear s f = is_object (type_at s f.owner).kind && not (is_clear s own_weight nat_eq f && is_clear s own_size same_size f)

abbrev pub disagree : SchemaData → Option (List ℕ)
disagree s = first_of (field_told s (is_unclear s)) (field_numbers s)
