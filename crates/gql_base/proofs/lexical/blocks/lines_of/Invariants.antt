use Rattle.std.proofs.Common.{◌≡◌, ◌++◌, map}
use Rattle.std.specs.Option.{option_map}
use Rattle.gql_base.specs.lexical.Blocks.{lines_left}
use Rattle.gql_base.proofs.LexicalLaws.BlockLines.{left_size}
use Rattle.gql_base.proofs.lexical.blocks.lines_of.Given as goal

-- the lines so far and those of what is left are all
abbrev pub invariant-loop-left : goal.invariant-loop-left
invariant-loop-left l =
    map (λ line. line.now) l.lines.items ++ lines_left (option_map (λ text. text.now) l.left) ≡ lines_left (option_map (λ text. text.now) l.fn.left)

abbrev pub decreases-loop-left : goal.decreases-loop-left
decreases-loop-left l = left_size (option_map (λ text. text.now) l.left)
