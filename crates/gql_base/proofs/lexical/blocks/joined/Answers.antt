use Rattle.std.proofs.Common.{◌≡◌, ◌-◌, ◌∙◌, length, take, drop, ap, arith, subst, string_bytes}
use Rattle.std.specs.Result.{IfOk}
use Rattle.std.specs.List.{join_with_byte}
use Rattle.std.proofs.lemmas.List.{take_all, length-drop}
use Rattle.gql_base.proofs.LexicalLaws.BlockLines.{ends_seen, joined_seen}
use Rattle.gql_base.proofs.lexical.blocks.joined.Goals as goal

pub returns : goal.returns
returns c =
    let front = c.blank_front.result in
    let end = c.blank_end.result in
    let ys = take (length c.args.lines.now - front) (drop front c.args.lines.now) in
    let rest = take_all (length c.args.lines.now - front) (drop front c.args.lines.now) (omega (arith, length-drop front c.args.lines.now)) in
    subst (λ text. IfOk c.join.result (λ t. string_bytes t ≡ text))
    (joined_seen (λ line. line.now) (take (length ys - end) ys)
    ∙ ap (join_with_byte 10) (ends_seen (λ line. line.now) c.args.lines.now ys front end c.blank_front.ensures.count rest c.blank_end.ensures.count))
    c.join.ensures.ok
