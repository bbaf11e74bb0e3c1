use Rattle.std.proofs.Common.{length, ◌-◌, ◌≡◌, drop}
use Rattle.gql_base.specs.lexical.Scans.{text_fault}
use Rattle.gql_base.proofs.lexical.strings.text_fault.Given as goal

abbrev pub invariant-loop-at : goal.invariant-loop-at
invariant-loop-at l = text_fault 0 l.at (drop l.at l.bytes) ≡ text_fault 0 1 (drop 1 l.bytes)

abbrev pub decreases-loop-at : goal.decreases-loop-at
decreases-loop-at l = length l.bytes - l.at
