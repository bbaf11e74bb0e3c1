-- What an index of names holds.
use Rattle.std.specs.Prelude.{◌≡◌, ℕ, List, Option}
use Rattle.std.specs.Borrow.{Bor}
use Rattle.std.specs.BTreeMap.{BTreeMap, get_by}
use Rattle.std.specs.Cmp.Lexicographic.{slice_cmp}
use Rattle.std.specs.List.{position_from}
use Rattle.std.specs.Ordering.{nat_cmp}
use Rattle.std.specs.Str.{bytes_eq}

-- what stands at a name
abbrev pub at_name : {T : Type 0} → BTreeMap (Bor (List ℕ)) T → List ℕ → Option T
at_name things name = get_by (λ key. slice_cmp nat_cmp name key.now) things

-- At each name the place of the first of the things with this name stands, where their places are counted from n on.
abbrev pub FindsFrom : {T : Type 0} → ℕ → (List ℕ → Option ℕ) → (T → List ℕ) → List T → Type 0
FindsFrom n places name_of items = (name : List ℕ) → places name ≡ position_from (λ item. bytes_eq (name_of item) name) n items
