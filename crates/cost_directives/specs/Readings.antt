-- What the text of a weight spells.
use Rattle.std.specs.Prelude.{ℕ, List, Option, None, Some, Result, Ok, Err}
use Rattle.cost_num.specs.declared.TheConstants.{GREATEST_WEIGHT}
use Rattle.cost_num.specs.declared.weights.WeightFault.{WeightFault}
use Rattle.cost_num.proofs.OneReading.{reads_some}

-- The reading of a text as a weight: its amount in millionths, or its first fault. Each text has just one.
unfoldable pub reading : List ℕ → Result ℕ WeightFault
reading text = (reads_some GREATEST_WEIGHT text).0

abbrev pub amount_read : Result ℕ WeightFault → Option ℕ
amount_read (Ok amount) = Some amount
amount_read (Err fault) = None

-- the weight that a text of `@cost` spells
abbrev pub weight_in : Option (List ℕ) → Option ℕ
weight_in None = None
weight_in (Some text) = amount_read (reading text)
