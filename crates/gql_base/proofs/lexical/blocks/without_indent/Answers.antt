use Rattle.std.proofs.Common.{◌∷◌, ◌∙◌, map, ap, arith}
use Rattle.std.proofs.lemmas.List.{take_all}
use Rattle.gql_base.specs.lexical.Blocks.{unindented}
use Rattle.gql_base.proofs.LexicalLaws.BlockLines.{map_twice, without_common_indent}
use Rattle.gql_base.proofs.lexical.blocks.without_indent.Goals as goal

pub returns : goal.returns
returns c =
    c.loop-line.invariant
    ∙ ap (λ ls. c.args.first.now ∷ ls)
    (ap (map (λ line. unindented c.common_indent-common.result line.now)) (take_all c.loop-line.line-index c.args.others.now (omega (arith, c.loop-line-test.false)))
    ∙ map_twice (unindented c.common_indent-common.result) (λ line. line.now) c.args.others.now
    ∙ ap (λ n. map (unindented n) (map (λ line. line.now) c.args.others.now)) c.common_indent-common.ensures
    ∙ without_common_indent (map (λ line. line.now) c.args.others.now))
