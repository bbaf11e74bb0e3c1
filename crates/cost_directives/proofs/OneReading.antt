-- The reading of a text as a weight.
use Rattle.std.proofs.Common.{ℕ, List}
use Rattle.cost_num.specs.declared.TheConstants.{GREATEST_WEIGHT}
use Rattle.cost_num.specs.Amount.{Reads}
use Rattle.cost_num.proofs.OneReading.{reads_some}
use Rattle.cost_directives.specs.Readings.{reading}

pub reading_reads : (text : List ℕ) → Reads GREATEST_WEIGHT text (reading text)
unfolding reading
reading_reads text = (reads_some GREATEST_WEIGHT text).1
