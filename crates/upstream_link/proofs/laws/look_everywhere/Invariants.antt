use Rattle.std.proofs.Common.{ℕ, ◌+◌, ◌-◌, ◌<◌, ◌≤◌, length, drop}
use Rattle.upstream_link.specs.Service.{IsSeen}
use Rattle.upstream_link.proofs.laws.look_everywhere.Given as goal

abbrev pub invariant-places : goal.invariant-places
invariant-places l = (l.at ≤ length l.bytes + 1) × ((at : ℕ) → at < l.at → IsSeen (drop at l.bytes))

abbrev pub decreases-places : goal.decreases-places
decreases-places l = length l.bytes + 1 - l.at
