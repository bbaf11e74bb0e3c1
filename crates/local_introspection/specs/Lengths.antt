-- How long a text may be.
use Rattle.std.specs.Prelude.{ℕ, ◌<◌, ◌≤◌, List, length, Option, None, Some}

-- It has at most so many bytes, where that is asked.
abbrev pub IsShort : Option ℕ → List ℕ → Type 0
IsShort None text = Unit {0}
IsShort (Some most) text = length text ≤ most

-- It has more.
abbrev pub IsLong : Option ℕ → List ℕ → Type 0
IsLong None text = ⊥
IsLong (Some most) text = most < length text
