-- The trailer of a chunked body as lines, which end with LF, with or without a CR before it (RFC 9112, section 2.2). What they hold is
-- not looked at.
use Rattle.std.specs.Prelude.{◌≡◌, ◌≢◌, ℕ, ◌⊎◌, List, [], ◌∷◌, ◌++◌}
use Rattle.std.specs.List.{AllByRecursion, flat_map}

-- nothing but the end of a line
abbrev pub IsEmptyLine : List ℕ → Type 0
IsEmptyLine line = (line ≡ 10 ∷ []) ⊎ (line ≡ 13 ∷ 10 ∷ [])

-- any bytes but LF
abbrev pub HasNoEnd : List ℕ → Type 0
HasNoEnd text = AllByRecursion (λ b. b ≢ 10) text

-- one line, which isn't empty
abbrev pub IsFullLine : List ℕ → Type 0
IsFullLine line = ((text : List ℕ) × HasNoEnd text × (line ≡ text ++ 10 ∷ [])) × (IsEmptyLine line → ⊥)

-- Lines that aren't empty, and then an empty one.
pub record IsTrailer (bytes : List ℕ) : Type 0 where
  pub lines : List (List ℕ)
  pub each : AllByRecursion IsFullLine lines
  pub last : List ℕ
  pub empty : IsEmptyLine last
  pub bytes_are : bytes ≡ flat_map (λ line. line) lines ++ last
