-- Names that stand once, and the first thing of a name.
use Rattle.std.specs.Prelude.{ℕ, ◌+◌, Bool, true, ◌&&◌, not, if◌then◌else◌, List, [], ◌∷◌, find, Option, None, Some}
use Rattle.std.specs.List.{list_any, position_from}
use Rattle.std.specs.Str.{bytes_eq}

-- whether no name stands twice
abbrev pub are_distinct : List (List ℕ) → Bool
are_distinct [] = true
are_distinct (name ∷ names) = not (list_any (bytes_eq name) names) && are_distinct names

-- the place of the first name that was seen or stands before it, where the places of the names are counted from n on
abbrev pub repeated_from : List (List ℕ) → ℕ → List (List ℕ) → Option ℕ
repeated_from seen n [] = None
repeated_from seen n (name ∷ names) = if list_any (bytes_eq name) seen then Some n else repeated_from (name ∷ seen) (n + 1) names

-- the place of the first name that stands before it
abbrev pub first_repeated : List (List ℕ) → Option ℕ
first_repeated names = repeated_from [] 0 names

-- the first of the things with this name
abbrev pub first_of_name : {T : Type 0} → (T → List ℕ) → List T → List ℕ → Option T
first_of_name name_of items name = find (λ item. bytes_eq (name_of item) name) items

-- the place of the first of the things with this name
abbrev pub place_of_name : {T : Type 0} → (T → List ℕ) → List T → List ℕ → Option ℕ
place_of_name name_of items name = position_from (λ item. bytes_eq (name_of item) name) 0 items

-- whether one of the things has this name
abbrev pub has_name : {T : Type 0} → (T → List ℕ) → List T → List ℕ → Bool
has_name name_of items name = list_any (λ item. bytes_eq (name_of item) name) items
