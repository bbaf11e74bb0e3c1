use Rattle.std.proofs.Common.{◌-◌, ◌≤◌, length, drop}
use Rattle.gql_base.proofs.LexicalLaws.DirectiveUses.{Leads}
use Rattle.gql_base.proofs.lexical.uses.uses_directive.Given as goal

-- what is left of the text tells what the whole does
abbrev pub invariant-loop-at : goal.invariant-loop-at
invariant-loop-at l = record {
  within : l.at ≤ length l.bytes;
  leads : Leads l.name l.bytes l.marked (drop l.at l.bytes);
}

abbrev pub decreases-loop-at : goal.decreases-loop-at
decreases-loop-at l = length l.bytes - l.at
