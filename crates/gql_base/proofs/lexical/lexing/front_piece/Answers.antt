use Rattle.std.proofs.Common.{◌∙◌, sym, arith}
use Rattle.gql_base.proofs.LexicalLaws.FrontPieces.{front_of_nothing, front_number, front_text, front_other, one_test, other_test}
use Rattle.gql_base.proofs.lexical.lexing.front_piece.Goals as goal

pub returns-in-empty-clause-piece : goal.returns-in-empty-clause-piece
returns-in-empty-clause-piece c = front_of_nothing c.args.floats c.args.bytes.now c.in-empty.len_below

pub returns-then-is_number_start-clause-piece : goal.returns-then-is_number_start-clause-piece
returns-then-is_number_start-clause-piece c =
    c.number_front.ensures.front ∙ sym (front_number c.args.floats c.args.bytes.now (omega (arith, c.in-len1-up.len_at_least)) (sym c.is_number_start.ensures ∙ c.if-is_number_start.true))

pub returns-then-first-eq34-clause-piece : goal.returns-then-first-eq34-clause-piece
returns-then-first-eq34-clause-piece c =
    c.text_front.ensures.front ∙ sym (front_text c.args.floats c.args.bytes.now (omega (arith, c.in-len1-up.len_at_least)) (sym c.is_number_start.ensures ∙ c.if-is_number_start.false) (one_test _ c.if-first-eq34.true))

pub returns-else-first-eq34-clause-piece : goal.returns-else-first-eq34-clause-piece
returns-else-first-eq34-clause-piece c =
    c.piece_from.ensures.piece ∙ sym (front_other c.args.floats c.args.bytes.now (omega (arith, c.in-len1-up.len_at_least)) (sym c.is_number_start.ensures ∙ c.if-is_number_start.false) (other_test _ c.if-first-eq34.false))
