-- Sums and products of costs that stop just above the cap.
use Rattle.std.specs.Prelude.{ℕ, ◌+◌, min}
use Rattle.cost_num.specs.declared.TheConstants.{CAP}

-- n where it is at most the cap, and one more than the cap where it exceeds it
abbrev pub capped : ℕ → ℕ
capped n = min n (CAP + 1)
