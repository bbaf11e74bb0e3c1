-- What a crash may leave of a disk, and what a write, a sync and the passing of time do to that.
use Rattle.std.specs.Prelude.{◌≡◌, ◌⊎◌, ℕ, ◌+◌, ◌≤◌, min, max, List, ◌++◌, length, take, drop, Option, Some, None}
use mathlib.Core.Path.{subst}

-- a file with a piece written at a place, over what was there and past the end
abbrev pub written_at : ℕ → List ℕ → List ℕ → List ℕ
written_at at piece file = take at file ++ piece ++ drop (at + length piece) file

abbrev pub written_where_told : ℕ → List ℕ → Option (List ℕ) → Option (List ℕ)
written_where_told at piece None = None
written_where_told at piece (Some file) = Some (written_at at piece file)

-- A torn write of so many bytes at a place: any bytes may stand in its range and past the old end. The other bytes stay,
-- and the file gets neither shorter nor longer than the whole write makes it.
pub record IsTorn (at count : ℕ) (old new : List ℕ) : Type 0 where
  pub front : take (min at (length old)) new ≡ take (min at (length old)) old
  pub behind : drop (at + count) new ≡ drop (at + count) old
  pub no_shorter : length old ≤ length new
  pub no_longer : length new ≤ max (length old) (at + count)

-- each new image comes of an old one by this step
abbrev pub StepsBack : (List ℕ → List ℕ → Type 0) → (List ℕ → Type 0) → (List ℕ → Type 0) → Type 0
StepsBack step old new = (c : List ℕ) → new c → (d : List ℕ) × old d × step d c

-- a file is durable: a crash leaves nothing else
abbrev pub IsDurable : List ℕ → (List ℕ → Type 0) → Type 0
IsDurable file image = (c : List ℕ) → image c → c ≡ file

-- Time passes up to now. From each earlier moment on, a crash may have left what it may have left by then, or what it may
-- leave now, and nothing else.
pub record TimePasses (before now : ℕ) (past since : ℕ → List ℕ → Type 0) (image : List ℕ → Type 0) : Type 0 where
  pub forward : before ≤ now
  pub known : (t : ℕ) (c : List ℕ) → t ≤ before → since t c → past t c ⊎ image c
  pub stays : (t : ℕ) (c : List ℕ) → t ≤ before → past t c → since t c

-- A crash at any moment of a run from an old disk to a new one leaves a file with P. So a crash at any moment of a longer
-- run, which began earlier, leaves what it left before this one, or a file with P.
pub record CrashesLeave {D : Type 0} (moment : D → ℕ) (image_since : D → ℕ → List ℕ → Type 0) (old new : D) (P : List ℕ → Type 0) : Type 0 where
  pub forward : moment old ≤ moment new
  pub each : (c : List ℕ) → image_since new (moment old) c → P c
  pub longer : (t : ℕ) (c : List ℕ) → t ≤ moment old → image_since new t c → image_since old t c ⊎ P c

-- where nothing is told, no bytes are
pub not_told : (file : List ℕ) → None ≡ Some file → ⊥
not_told file is = subst (λ (told : Option (List ℕ)). none_or told) is tt
  where
    none_or : Option (List ℕ) → Type 0
    none_or None = Unit {0}
    none_or (Some bytes) = ⊥
