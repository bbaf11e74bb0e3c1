-- What serves proofs: how lists of numbers are turned over.
use Rattle.std.specs.Prelude.{ℕ, zero, suc, ◌+◌, ◌-◌, Bool, false, nat_eq, List, [], ◌∷◌, ◌++◌, length, slice_get, Option, None, Some, if◌then◌else◌}

abbrev pub holds : ℕ → Option ℕ → Bool
holds n None = false
holds n (Some other) = nat_eq other n

-- a list that ends in a number, which is added unless it stands there
abbrev pub with_last : ℕ → List ℕ → List ℕ
with_last n l = if holds n (slice_get l (length l - 1)) then l else l ++ (n ∷ [])

-- the lists, where a number is added to the one at a place
abbrev pub put_at : ℕ → ℕ → List (List ℕ) → List (List ℕ)
put_at place n [] = []
put_at zero n (l ∷ lists) = with_last n l ∷ lists
put_at (suc place) n (l ∷ lists) = l ∷ put_at place n lists

abbrev pub put_each : List ℕ → ℕ → List (List ℕ) → List (List ℕ)
put_each [] n lists = lists
put_each (place ∷ places) n lists = put_each places n (put_at place n lists)

-- the lists, where the number of each further list is added at the places that it holds
abbrev pub put_lists : ℕ → List (List ℕ) → List (List ℕ) → List (List ℕ)
put_lists n [] lists = lists
put_lists n (places ∷ further) lists = put_lists (n + 1) further (put_each places n lists)

abbrev pub nones : ℕ → List (List ℕ)
nones zero = []
nones (suc count) = [] ∷ nones count
