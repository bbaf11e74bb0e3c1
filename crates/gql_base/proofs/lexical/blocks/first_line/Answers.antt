use Rattle.std.proofs.Common.{◌≡◌, ◌+◌, ◌-◌, ◌∷◌, ◌∙◌, not, take, drop, length, sym, ap, arith}
use Rattle.std.specs.List.{prefix_len}
use Rattle.std.proofs.lemmas.List.{length-drop}
use Rattle.gql_base.specs.lexical.Characters.{is_line_end}
use Rattle.gql_base.specs.lexical.Blocks.{line_end_length, lines_of}
use Rattle.gql_base.proofs.LexicalLaws.BlockLines.{last_line, first_of_lines, border_of_line_end}
use Rattle.gql_base.proofs.lexical.blocks.first_line.Goals as goal

pub range_from-requires : goal.range_from-requires
range_from-requires c = λ some.
    let rest = c.after.ensures ∙ ap (drop c.line_length-end.result) c.as_bytes-2.ensures.value in
    border_of_line_end c.args.text.now c.line_length-end.result c.line_end_length-size.result c.utf8.text (c.line_end_length-size.ensures.size ∙ ap line_end_length rest)
    (omega (arith, c.if-size-eq0.false))
    (omega (arith, c.line_length-end.ensures.within, c.line_end_length-size.ensures.within, ap length rest, ap length c.as_bytes.ensures.value, length-drop c.line_length-end.result c.args.text.now))

pub returns-then-size-eq0-clause-lines : goal.returns-then-size-eq0-clause-lines
returns-then-size-eq0-clause-lines c =
    let rest = c.after.ensures ∙ ap (drop c.line_length-end.result) c.as_bytes-2.ensures.value in
    last_line c.args.text.now c.line_length-end.result (c.line_length-end.ensures.longest ∙ ap (prefix_len (λ x. not (is_line_end x))) c.as_bytes.ensures.value)
    (sym (c.line_end_length-size.ensures.size ∙ ap line_end_length rest) ∙ c.if-size-eq0.true)

pub returns-else-size-eq0-clause-lines : goal.returns-else-size-eq0-clause-lines
returns-else-size-eq0-clause-lines c =
    let rest = c.after.ensures ∙ ap (drop c.line_length-end.result) c.as_bytes-2.ensures.value in
    let whole : c.line_length-end.result ≡ c.line_length-end.result - 0 = omega arith in
    first_of_lines c.args.text.now c.line_length-end.result c.line_end_length-size.result
    (c.line_length-end.ensures.longest ∙ ap (prefix_len (λ x. not (is_line_end x))) c.as_bytes.ensures.value)
    (c.line_end_length-size.ensures.size ∙ ap line_end_length rest)
    (omega (arith, c.if-size-eq0.false))
    ∙ ap (λ l. l ∷ lines_of (drop (c.line_length-end.result + c.line_end_length-size.result) c.args.text.now)) (ap (λ k. take k c.args.text.now) whole ∙ sym c.range.ensures.value)
    ∙ ap (λ t. c.range.result.now ∷ lines_of t) (sym c.range_from.ensures.value)
