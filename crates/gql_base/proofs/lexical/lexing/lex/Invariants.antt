use Rattle.std.proofs.Common.{◌-◌, ◌≤◌, length}
use Rattle.gql_base.proofs.LexicalLaws.Divisions.{LexedUpTo}
use Rattle.gql_base.proofs.lexical.lexing.lex.Given as goal

-- what is read so far are pieces, and their tokens are those that were pushed
abbrev pub invariant-loop-at : goal.invariant-loop-at
invariant-loop-at l = record {
  within : l.at ≤ length l.bytes;
  lexed : LexedUpTo l.floats l.bytes l.at l.tokens.items;
}

abbrev pub decreases-loop-at : goal.decreases-loop-at
decreases-loop-at l = length l.bytes - l.at
