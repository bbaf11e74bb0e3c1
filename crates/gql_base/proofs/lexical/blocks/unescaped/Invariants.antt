use Rattle.std.proofs.Common.{length, ◌-◌, ◌≡◌, ◌++◌, drop, IsCharBoundary, string_bytes}
use Rattle.gql_base.specs.lexical.Blocks.{unescaped}
use Rattle.gql_base.proofs.lexical.blocks.unescaped.Given as goal

-- what is copied so far and that of what is left are the whole
abbrev pub invariant-loop-at : goal.invariant-loop-at
invariant-loop-at l = record {
  border : IsCharBoundary l.raw l.at;
  so_far : string_bytes l.text ++ unescaped (drop l.at l.raw) ≡ unescaped l.raw;
}

abbrev pub decreases-loop-at : goal.decreases-loop-at
decreases-loop-at l = length l.raw - l.at
