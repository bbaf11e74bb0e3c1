-- Counts that rise, one time after the other.
use Rattle.std.proofs.Common.{ℕ, ◌+◌, ◌≤◌, inl, inr, arith}
use Rattle.outside.specs.Faults.{Rose, RoseBy}

-- one rise is a rise by one
pub rose_once : (before after : ℕ) → Rose before after → RoseBy 1 before after
rose_once before after rose = elim rose [ inl up ↦ omega (arith, up) | inr over ↦ omega (arith, over) ]

-- a count that never falls rose by nothing
pub rose_by_none : (before after : ℕ) → before ≤ after → RoseBy 0 before after
rose_by_none before after up = omega (arith, up)

-- rises one after the other add up
pub rose_then : (first second before between after : ℕ) → RoseBy first before between → RoseBy second between after → RoseBy (first + second) before after
rose_then first second before between after x y = omega (arith, x, y)
