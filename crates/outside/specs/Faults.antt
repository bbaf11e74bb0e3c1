-- When an object of the outside may answer a fault.
use Rattle.std.specs.Prelude.{◌≡◌, ℕ, ◌+◌, ◌-◌, ◌^◌, ◌<◌, ◌≤◌, ◌⊎◌, List, min}

-- the greatest count of faults that is kept: the last value of a `u64`
abbrev pub last_count : ℕ
last_count = 2 ^ 64 - 1

-- the count rose, or it stands at its last value
abbrev pub Rose : ℕ → ℕ → Type 0
Rose before after = (before < after) ⊎ (last_count ≤ after)

-- the count rose by so much at least, or it stands at its last value
abbrev pub RoseBy : ℕ → ℕ → ℕ → Type 0
RoseBy much before after = min (before + much) last_count ≤ after

-- The counts of all names are as they were.
abbrev pub StayAll : (List ℕ → ℕ) → (List ℕ → ℕ) → Type 0
StayAll before after = (name : List ℕ) → after name ≡ before name

-- No count changed but that of this name, which may stand for other names too.
abbrev pub ChangesAlone : List ℕ → (List ℕ → ℕ) → (List ℕ → ℕ) → Type 0
ChangesAlone name before after =
    (other : List ℕ) → (after other ≡ before other) ⊎ ((before other ≡ before name) × (after other ≡ after name))

-- the count that follows, which stops at the last one
abbrev pub next_count : ℕ → ℕ
next_count count = min (count + 1) last_count
