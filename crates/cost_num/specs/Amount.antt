-- What a weight or an allowance is as a text, and the first thing that is wrong with one that is none.
use Rattle.std.specs.Prelude.{Bool, ◌==◌, ◌≡◌, ◌≢◌, ℕ, ◌+◌, ◌-◌, ◌*◌, ◌<◌, ◌≤◌, ◌⊎◌, List, [], ◌∷◌, ◌++◌, length, take, replicate, slice_index, Result, Ok, Err}
use Rattle.std.specs.Char.{digit_value}
use Rattle.std.specs.List.{before_first, after_first}
use Rattle.std.specs.Str.Parse.{digits_value}
use Rattle.cost_num.specs.declared.TheConstants.{PLACES, UNIT}
use Rattle.cost_num.specs.declared.weights.WeightFault.{WeightFault}
use Rattle.cost_num.specs.declared.weights.WeightFault.TheVariants.{Empty, Negative, Exponent, BadDigit, TooFine, TooLarge}
use Rattle.cost_num.specs.DecimalText.{Splits, IsFirstMisfit, EndsEarly}

-- the first decimal places of a fraction, filled with zeros
abbrev pub places_of : List ℕ → List ℕ
places_of fraction = take PLACES fraction ++ replicate (PLACES - length fraction) 48

-- the amount in millionths: the whole part times a million, and the first six places
abbrev pub amount_of : List ℕ → List ℕ → ℕ
amount_of whole fraction = digits_value 10 whole * UNIT + digits_value 10 (places_of fraction)

-- the dot
abbrev pub is_dot : ℕ → Bool
is_dot c = c == 46

-- the amount of a decimal text: its whole part stands before the first dot, and its fraction after it
unfoldable pub amount_in : List ℕ → ℕ
amount_in text = amount_of (before_first is_dot text) (after_first is_dot text)

-- the text is decimal, its digits after the last place are 0, and this is its amount
pub record Spells (text : List ℕ) (amount : ℕ) : Type 0 where
  pub whole : List ℕ
  pub fraction : List ℕ
  pub splits : Splits text whole fraction
  pub fine : (k : ℕ) → PLACES ≤ k → k < length fraction → slice_index fraction k ≡ 48
  pub value : amount ≡ amount_of whole fraction

-- the text is decimal, and the first digit after the last place that isn't 0 stands at `at`
pub record IsTooFine (text : List ℕ) (at : ℕ) : Type 0 where
  pub whole : List ℕ
  pub fraction : List ℕ
  pub place : ℕ
  pub splits : Splits text whole fraction
  pub stands : at ≡ length whole + 1 + place
  pub past : PLACES ≤ place
  pub in_fraction : place < length fraction
  pub digit : slice_index fraction place ≢ 48
  pub first : (k : ℕ) → PLACES ≤ k → k < place → slice_index fraction k ≡ 48

-- `e` or `E` directly after a digit
pub record IsExponent (text : List ℕ) (at : ℕ) : Type 0 where
  pub after : 0 < at
  pub digit : digit_value (slice_index text (at - 1)) < 10
  pub letter : (slice_index text at ≡ 101) ⊎ (slice_index text at ≡ 69)

-- what each fault says of a text, where `greatest` is the greatest amount that is taken
abbrev pub Shows : ℕ → List ℕ → WeightFault → Type 0
Shows greatest text Empty = text ≡ []
Shows greatest text Negative = (rest : List ℕ) × (text ≡ 45 ∷ rest)
Shows greatest text Exponent = (at : ℕ) × IsFirstMisfit text at × IsExponent text at
Shows greatest text (BadDigit at) = (IsFirstMisfit text at × ¬ (IsExponent text at)) ⊎ (EndsEarly text × (at ≡ length text))
Shows greatest text (TooFine at) = IsTooFine text at
Shows greatest text TooLarge = (amount : ℕ) × Spells text amount × (greatest < amount)

-- the order in which the faults are tested
abbrev pub turn : WeightFault → ℕ
turn Empty = 1
turn Negative = 2
turn Exponent = 3
turn (BadDigit at) = 4
turn (TooFine at) = 5
turn TooLarge = 6

-- the text has this fault, and none that is tested before it
pub record IsFirstFault (greatest : ℕ) (text : List ℕ) (fault : WeightFault) : Type 0 where
  pub shows : Shows greatest text fault
  pub first : (earlier : WeightFault) → turn earlier < turn fault → ¬ (Shows greatest text earlier)

-- the text spells this amount, which is in range
pub record IsAmount (greatest : ℕ) (text : List ℕ) (amount : ℕ) : Type 0 where
  pub spells : Spells text amount
  pub in_range : amount ≤ greatest

-- what reading a text gives: its amount, or its first fault
abbrev pub Reads : ℕ → List ℕ → Result ℕ WeightFault → Type 0
Reads greatest text (Ok amount) = IsAmount greatest text amount
Reads greatest text (Err fault) = IsFirstFault greatest text fault
