-- Groups that are put together, field after field.
use Rattle.std.specs.Prelude.{◌≡◌, ℕ, zero, suc, List, [], ◌∷◌, ◌++◌, map, option_map, Option, None, Some, if◌then◌else◌}
use Rattle.std.specs.Str.{bytes_eq}
use Rattle.indexmap.specs.IndexMap.{keys, values}
use Rattle.plan_model.specs.Merging.{keys_of}
use Rattle.collected_fields.specs.declared.group.Groups.{Groups}
use Rattle.collected_fields.specs.Walks.{NumberedField, field_alone, numbered_by_key, numbered_group}

-- the keys of groups, and their fields
abbrev pub keys_grouped : Groups → List (List ℕ)
keys_grouped g = map (λ k. k.now) (keys g.by_key)

abbrev pub fields_grouped : Groups → List (List NumberedField)
fields_grouped g = map numbered_group (values g.by_key)

-- the place of a key
abbrev pub place_in : List ℕ → List (List ℕ) → Option ℕ
place_in key [] = None
place_in key (k ∷ keys) = if bytes_eq k key then Some 0 else option_map suc (place_in key keys)

-- a field more in the group at a place
abbrev pub appended_at : ℕ → NumberedField → List (List NumberedField) → List (List NumberedField)
appended_at place f [] = []
appended_at zero f (g ∷ groups) = (g ++ (f ∷ [])) ∷ groups
appended_at (suc place) f (g ∷ groups) = g ∷ appended_at place f groups

-- The groups are those of these fields, under their keys.
pub record AreGrouped (fields : List NumberedField) (g : Groups) : Type 0 where
  pub grouped : fields_grouped g ≡ numbered_by_key fields
  pub keys : keys_grouped g ≡ keys_of (map field_alone fields)
