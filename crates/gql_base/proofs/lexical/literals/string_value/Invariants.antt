use Rattle.std.proofs.Common.{length, ◌-◌, ◌≡◌, ◌++◌, drop, IsCharBoundary, string_bytes}
use Rattle.gql_base.specs.lexical.Scans.{text_value}
use Rattle.gql_base.proofs.lexical.literals.string_value.Given as goal

-- the value so far and that of what is left are the whole value
abbrev pub invariant-loop-at : goal.invariant-loop-at
invariant-loop-at l = record {
  border : IsCharBoundary l.body l.at;
  so_far : string_bytes l.value ++ text_value 0 (drop l.at l.body) ≡ text_value 0 l.body;
}

abbrev pub decreases-loop-at : goal.decreases-loop-at
decreases-loop-at l = length l.body - l.at
