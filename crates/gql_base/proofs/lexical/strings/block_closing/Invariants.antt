use Rattle.std.proofs.Common.{length, ◌-◌, ◌≡◌, drop}
use Rattle.gql_base.specs.lexical.Scans.{block_closed_at}
use Rattle.gql_base.proofs.lexical.strings.block_closing.Given as goal

abbrev pub invariant-loop-at : goal.invariant-loop-at
invariant-loop-at l = block_closed_at 0 l.at (drop l.at l.bytes) ≡ block_closed_at 0 3 (drop 3 l.bytes)

abbrev pub decreases-loop-at : goal.decreases-loop-at
decreases-loop-at l = length l.bytes - l.at
