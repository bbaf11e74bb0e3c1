use Rattle.std.proofs.Common.{◌≡◌, ◌∷◌, map, take}
use Rattle.gql_base.specs.lexical.Blocks.{unindented}
use Rattle.gql_base.proofs.lexical.blocks.without_indent.Given as goal

abbrev pub invariant-loop-line : goal.invariant-loop-line
invariant-loop-line l = map (λ line. line.now) l.lines.items ≡ l.first ∷ map (λ line. unindented l.common line.now) (take l.line-index l.others)
