use Rattle.std.proofs.Common.{length, ◌-◌, ◌≡◌, false, drop}
use Rattle.gql_base.specs.lexical.Scans.{closed_at}
use Rattle.gql_base.proofs.lexical.strings.string_closing.Given as goal

abbrev pub invariant-loop-at : goal.invariant-loop-at
invariant-loop-at l = closed_at l.escaped l.at (drop l.at l.bytes) ≡ closed_at false 1 (drop 1 l.bytes)

abbrev pub decreases-loop-at : goal.decreases-loop-at
decreases-loop-at l = length l.bytes - l.at
