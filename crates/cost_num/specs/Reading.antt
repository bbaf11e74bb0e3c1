-- What the parts of reading a text say.
use Rattle.std.specs.Prelude.{◌≡◌, ◌≢◌, ℕ, ◌<◌, ◌≤◌, ◌⊎◌, List, [], ◌∷◌, length, slice_index, ⊤}
use Rattle.std.specs.Char.{digit_value}
use Rattle.cost_num.specs.declared.TheConstants.{PLACES}
use Rattle.cost_num.specs.declared.weights.WeightFault.{WeightFault}
use Rattle.cost_num.specs.declared.weights.WeightFault.TheVariants.{Exponent, BadDigit}
use Rattle.cost_num.specs.Amount.{IsExponent}
use Rattle.cost_num.specs.DecimalText.{IsFirstMisfit, EndsEarly}

-- the text doesn't begin with a digit
abbrev pub NoDigitFirst : List ℕ → Type 0
NoDigitFirst [] = ⊤
NoDigitFirst (c ∷ cs) = 10 ≤ digit_value c

-- the first character that doesn't fit stands here, or the text ends here, too early
abbrev pub StopsAt : List ℕ → ℕ → Type 0
StopsAt text at = IsFirstMisfit text at ⊎ (EndsEarly text × (at ≡ length text))

-- the first digit after the last place that isn't 0
pub record IsFirstPast (fraction : List ℕ) (place : ℕ) : Type 0 where
  pub past : PLACES ≤ place
  pub in_fraction : place < length fraction
  pub digit : slice_index fraction place ≢ 48
  pub first : (k : ℕ) → PLACES ≤ k → k < place → slice_index fraction k ≡ 48

-- the fault of a text whose first character that doesn't fit stands at `at`
abbrev pub IsMisfitFault : List ℕ → ℕ → WeightFault → Type 0
IsMisfitFault text at Exponent = IsExponent text at
IsMisfitFault text at (BadDigit place) = (place ≡ at) × ¬ (IsExponent text at)
IsMisfitFault text at _ = ⊥
