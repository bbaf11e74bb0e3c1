use Rattle.std.proofs.Common.{◌∷◌, ◌∙◌, map, sym, ap}
use Rattle.std.specs.List.{join_with_byte}
use Rattle.gql_base.specs.lexical.Blocks.{lines_of, without_indent, without_blank_front, without_blank_end, block_text}
use Rattle.gql_base.proofs.lexical.blocks.block_value.Goals as goal

pub returns : goal.returns
unfolding block_text
returns c =
    let all = ap (λ ls. c.first_line.result.0.now ∷ ls) (ap (map (λ line. line.now)) c.deref.ensures.value ∙ c.in_ok-others.ensures)
    ∙ sym c.first_line.ensures.lines
    ∙ ap lines_of (c.as_str.ensures.value ∙ c.in_ok-text.ensures) in
    let lines = ap (map (λ line. line.now)) c.deref-2.ensures.value ∙ c.in_ok-lines.ensures ∙ ap without_indent all in
    c.from.ensures ∙ c.in_ok-joined.ensures ∙ ap (λ ls. join_with_byte 10 (without_blank_end (without_blank_front ls))) lines
