-- Marks, one after another.
use Rattle.std.proofs.Common.{ℕ, ◌≡◌, ◌<◌, ◌||◌, Bool, false, List, length, map, get_or, nat_eq}
use Rattle.std.specs.List.{list_any}
use Rattle.input_values.specs.declared.inputs.shape.TypeId.{TypeId}
use Rattle.schema_model.specs.Numbers.{type_number}

-- The marks so far and what is left tell of the whole.
abbrev pub MarksLeft : List Bool → List TypeId → List ℕ → Type 0
MarksLeft marks left whole = (n : ℕ) → n < length marks → (get_or marks n false || list_any (nat_eq n) (map type_number left)) ≡ list_any (nat_eq n) whole
