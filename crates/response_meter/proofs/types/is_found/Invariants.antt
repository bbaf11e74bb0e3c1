-- The halves stay within the list.
use Rattle.std.proofs.Common.{◌≤◌, ◌-◌, length}
use Rattle.response_meter.proofs.types.is_found.Given as goal

abbrev pub decreases-halves : goal.decreases-halves
decreases-halves l = l.high - l.low

abbrev pub invariant-halves : goal.invariant-halves
invariant-halves l = l.high ≤ length l.numbers
