-- Counts of nodes.
use Rattle.std.specs.Prelude.{ℕ, ◌+◌, min}

-- a count that stops one above the limit
abbrev pub counted : ℕ → ℕ → ℕ
counted limit n = min n (limit + 1)
