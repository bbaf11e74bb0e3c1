-- What the walk measures that finds whether an answer is too long.
use Rattle.std.specs.Prelude.{◌≡◌, ℕ, ◌+◌, ◌<◌, ◌≤◌, ◌⊎◌, List, length, Result, Ok, Err, Option, Some, None, Bool, true, false}
use Rattle.serde_json.specs.Data.{Data}
use Rattle.serde_json.specs.Written.{compact_text}
use Rattle.cost_num.specs.declared.Cost.{Cost}
use Rattle.schema_facts.specs.Facts.{FactsData}
use Rattle.meta_schema.specs.PassedOn.{AskedNodes}
use Rattle.local_introspection.specs.declared.counting.Stop.{Stop}
use Rattle.local_introspection.specs.declared.counting.Stop.TheVariants.{TooLarge, Memory}
use Rattle.local_introspection.specs.Lengths.{IsShort, IsLong}
use Rattle.local_introspection.specs.Counting.{IsCount}
use Rattle.local_introspection.specs.Walking.{answer_text}

-- The bytes of this text came. Or the walk stopped: it has more than might still come, or there was no memory.
abbrev pub Measures : {T : Type 0} → ℕ → ℕ → Result T Stop → List ℕ → Type 0
Measures room still (Ok done) text = room ≡ still + length text
Measures room still (Err TooLarge) text = room < length text
Measures room still (Err Memory) text = Unit {0}

-- A leaf was measured; of a thing that is none nothing was.
abbrev pub MeasuresLeaf : ℕ → ℕ → Result Bool Stop → Option Data → Type 0
MeasuresLeaf room still (Ok is_leaf) (Some json) = (is_leaf ≡ true) × (room ≡ still + length (compact_text json))
MeasuresLeaf room still (Ok is_leaf) None = (is_leaf ≡ false) × (room ≡ still)
MeasuresLeaf room still (Err TooLarge) (Some json) = room < length (compact_text json)
MeasuresLeaf room still (Err TooLarge) None = ⊥
MeasuresLeaf room still (Err Memory) json = Unit {0}

-- The text of the whole answer is short enough, or it is longer than it may be.
abbrev pub TellsLength : {T : Type 0} → FactsData → AskedNodes → Option ℕ → Result T Stop → Type 0
TellsLength f nodes most (Ok done) = IsShort most (answer_text f nodes)
TellsLength f nodes most (Err TooLarge) = IsLong most (answer_text f nodes)
TellsLength f nodes most (Err Memory) = Unit {0}

-- It is just what the one answer costs, where that isn't too large: it has at most 1,000,000 values, and its text isn't longer than it
-- may be.
abbrev pub IsSized : FactsData → AskedNodes → Option ℕ → Result Cost Stop → Type 0
IsSized f nodes most (Ok cost) = IsCount f nodes (Ok cost) × IsShort most (answer_text f nodes)
IsSized f nodes most (Err TooLarge) = IsCount f nodes (Err TooLarge) ⊎ IsLong most (answer_text f nodes)
IsSized f nodes most (Err Memory) = Unit {0}

-- The text of the whole answer has at most so many bytes, or more.
abbrev pub IsMeasured : {T : Type 0} → FactsData → AskedNodes → ℕ → Result T Stop → Type 0
IsMeasured f nodes most (Ok done) = length (answer_text f nodes) ≤ most
IsMeasured f nodes most (Err TooLarge) = most < length (answer_text f nodes)
IsMeasured f nodes most (Err Memory) = Unit {0}
