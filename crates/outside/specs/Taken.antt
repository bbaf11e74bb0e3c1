-- What was taken of an object's bytes, in whatever pieces it gave them.
use Rattle.std.specs.Prelude.{◌≡◌, ℕ, ◌≤◌, ◌<◌, List, [], ◌++◌, length, take, Option, Some, None, Result, Ok, Err, Bool, false, IsTrue, ◌&&◌, nat_eq, nat_lt}
use Rattle.std.specs.Io.KnownBytes.{IsAtEnd}

-- These bytes were taken: they stood before what is left. An object that doesn't tell what is left doesn't
-- tell it afterwards.
abbrev pub Took : Option (List ℕ) → List ℕ → Option (List ℕ) → Type 0
Took None taken after = after ≡ None
Took (Some bytes) taken after = (rest : List ℕ) × (after ≡ Some rest) × (bytes ≡ taken ++ rest)

-- A read took the first bytes of what it filled, so many as it says, and nothing at a fault. None of a piece
-- that isn't empty are the end.
abbrev pub ReadTakes : {E : Type 0} → Option (List ℕ) → Option (List ℕ) → Result ℕ E → List ℕ → Type 0
ReadTakes before after (Ok count) into =
    (count ≤ length into) × Took before (take count into) after × (count ≡ 0 → 0 < length into → IsAtEnd after)
ReadTakes before after (Err fault) into = Took before [] after

-- the read met the end: it gave no byte of a piece that isn't empty
abbrev pub meets_end : {E : Type 0} → Result ℕ E → List ℕ → Bool
meets_end (Ok count) into = nat_eq count 0 && nat_lt 0 (length into)
meets_end (Err fault) into = false

-- Some bytes were taken, and `Says` holds of the bytes that were kept with those behind them. `ended` says
-- that the end was met after them.
pub record Taken (kept : List ℕ) (before after : Option (List ℕ)) (Says : List ℕ → Bool → Type 0) : Type 0 where
  pub bytes : List ℕ
  pub ended : Bool
  pub took : Took before bytes after
  pub at_end : IsTrue ended → IsAtEnd after
  pub says : Says (kept ++ bytes) ended
