-- What a clock that tells its readings gives.
use Rattle.std.specs.Prelude.{◌≡◌, ℕ, List, [], ◌∷◌, Option, Some, None}

-- one reading: the first of those to come, and 0 where there is none
abbrev pub Tick : Option (List ℕ) → ℕ → Option (List ℕ) → Type 0
Tick None seconds after = after ≡ None
Tick (Some []) seconds after = (seconds ≡ 0) × (after ≡ Some [])
Tick (Some (first ∷ rest)) seconds after = (seconds ≡ first) × (after ≡ Some rest)

-- readings one after the other
unfoldable pub Ticks : Option (List ℕ) → List ℕ → Option (List ℕ) → Type 0
Ticks before [] after = after ≡ before
Ticks before (seconds ∷ more) after = (between : Option (List ℕ)) × Tick before seconds between × Ticks between more after
