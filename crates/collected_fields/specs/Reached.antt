-- The types of objects for which selections may have fields.
use Rattle.std.specs.Prelude.{◌≡◌, ◌<◌, ℕ, Bool, true, false, ◌||◌, not, nat_eq, List, map, length, get_or, Option, None, Some}
use Rattle.std.specs.List.{list_any}
use Rattle.schema_rules.specs.Kinds.{is_object}
use Rattle.schema_model.specs.Numbers.{type_number}
use Rattle.schema_model.specs.SchemaData.{SchemaData, type_at, applies}
use Rattle.collected_fields.specs.declared.reach.Reach.{Reach}
use Rattle.collected_fields.specs.declared.reach.Reach.TheVariants.{Every, These}
use Rattle.collected_fields.specs.declared.reaching.Reaches.{Reaches}

-- whether a type is marked
abbrev pub is_marked_in : List Bool → ℕ → Bool
is_marked_in marks T = get_or marks T false

-- whether it is among them
abbrev pub reaches : Reach → ℕ → Bool
reaches Every T = true
reaches (These few marks) T = is_marked_in marks.items T || list_any (nat_eq T) (map type_number few.items)

abbrev pub Misses : Reach → ℕ → Type 0
Misses r T = reaches r T ≡ false

-- What the new one misses, the old one missed, and the test doesn't find it.
abbrev pub MissesMore : Reach → Reach → (ℕ → Bool) → Type 0
MissesMore old new test = (T : ℕ) → Misses new T → Misses old T × (test T ≡ false)

-- It is a type of objects.
pub record IsObjectType (s : SchemaData) (T : ℕ) : Type 0 where
  pub there : T < length s.types
  pub object : is_object (type_at s T).kind ≡ true

-- What the new one misses of types of objects, the old one missed, and the test doesn't find it where the condition applies to it.
abbrev pub MissesPossible : SchemaData → ℕ → Reach → Reach → (ℕ → Bool) → Type 0
MissesPossible s on old new test = (T : ℕ) → IsObjectType s T → Misses new T → Misses old T × (applies s on T ≡ true → test T ≡ false)

-- What the new one misses of types of objects, the old one missed, and so did the other where the condition applies to it.
abbrev pub MissesWhere : SchemaData → ℕ → Reach → Reach → Reach → Type 0
MissesWhere s on old new other = (T : ℕ) → IsObjectType s T → Misses new T → Misses old T × (applies s on T ≡ true → Misses other T)

-- ---- what was found of selection sets

abbrev pub found_of : Reaches → ℕ → Option Reach
found_of found set = get_or found.sets.items set None

-- whether something was found that misses a type
abbrev pub is_missed : Option Reach → ℕ → Bool
is_missed None T = false
is_missed (Some reach) T = not (reaches reach T)
