-- Decimal text, and the first character that keeps a text from being one.
use Rattle.std.specs.Prelude.{◌≡◌, ℕ, ◌+◌, ◌<◌, ◌⊎◌, List, [], ◌∷◌, ◌++◌, length, take}
use Rattle.std.specs.Str.Parse.{IsNumeral}

-- the text is `whole`, or it is `whole`, a dot and `fraction`; each part is one digit or more
pub record Splits (text whole fraction : List ℕ) : Type 0 where
  pub digits : IsNumeral 10 whole
  pub rest : ((fraction ≡ []) × (text ≡ whole)) ⊎ (IsNumeral 10 fraction × (text ≡ whole ++ (46 ∷ fraction)))

-- digits, or digits, a dot and digits
pub record IsDecimal (text : List ℕ) : Type 0 where
  pub whole : List ℕ
  pub fraction : List ℕ
  pub splits : Splits text whole fraction

-- some decimal text begins so
pub record BeginsDecimal (front : List ℕ) : Type 0 where
  pub rest : List ℕ
  pub goes_on : IsDecimal (front ++ rest)

-- the first character that doesn't fit stands at `at`: what is before it begins a decimal text, and
-- with it nothing does
pub record IsFirstMisfit (text : List ℕ) (at : ℕ) : Type 0 where
  pub in_text : at < length text
  pub before : BeginsDecimal (take at text)
  pub there : ¬ (BeginsDecimal (take (at + 1) text))

-- the text begins a decimal text and isn't one
pub record EndsEarly (text : List ℕ) : Type 0 where
  pub begins : BeginsDecimal text
  pub short : ¬ (IsDecimal text)
