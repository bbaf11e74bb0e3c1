-- Numbers of types that are marked.
use Rattle.std.specs.Prelude.{◌≡◌, ℕ, ◌<◌, Bool, false, ◌||◌, nat_eq, get_or, List, length}
use Rattle.std.specs.List.{list_any}
use Rattle.input_values.specs.declared.inputs.shape.TypeId.{TypeId}

abbrev pub type_number : TypeId → ℕ
type_number id = id.number

-- Each mark says whether its number is among these.
abbrev pub Marks : List Bool → List ℕ → Type 0
Marks marks numbers = (n : ℕ) → n < length marks → get_or marks n false ≡ list_any (nat_eq n) numbers

-- marks with one more at a number, where there is a place for it
abbrev pub IsMarked : List Bool → List Bool → ℕ → Type 0
IsMarked old new at = (n : ℕ) → n < length old → get_or new n false ≡ (get_or old n false || nat_eq n at)
