use Rattle.std.proofs.Common.{arith, ℕ, ◌≡◌, ◌+◌, ◌∙◌, inl, sym, subst, List, map}
use Rattle.std.proofs.lemmas.List.{length-take, length-drop}
use Rattle.gql_base.specs.declared.lexical.token.Token.{Token}
use Rattle.gql_base.specs.lexical.Faults.{HasFault}
use Rattle.gql_base.specs.lexical.Tokens.{Lexes, lexeme_of}
use Rattle.gql_base.proofs.LexicalLaws.Divisions.{lexed_at_start, lexed_token, lexed_ignored, LexedUpTo, lexed_whole, fault_at}
use Rattle.gql_base.proofs.LexicalLaws.OneDivision.{lexes_once, has_lexemes_once, no_fault, one_fault}
use Rattle.gql_base.proofs.WayLaws.Places.{in_order, has_lexemes, has_tokens}
use Rattle.gql_base.proofs.lexical.lexing.lex.Goals as goal

pub loop-at-init : goal.loop-at-init
loop-at-init c = record { within = omega arith; lexed = lexed_at_start c.args.floats _ _ c.new-tokens.ensures.items }

-- the fault at which reading stops
faulty : (c : goal.After-drop-tokens) → HasFault c.args.floats c.args.text.now c.moved.result
faulty c =
    subst (HasFault c.args.floats c.args.text.now) (sym c.moved.ensures)
    (fault_at c.args.floats c.as_bytes-bytes.result.now c.args.text.now c.loop-at.at c.loop-at.tokens.items c.in-Err.fault c.as_bytes-bytes.ensures.value
    c.loop-at-test.true c.loop-at.invariant.lexed (sym c.front_piece.ensures.piece ∙ c.in-Err.is))

pub returns-in-Err-clause-only : goal.returns-in-Err-clause-only
returns-in-Err-clause-only c = λ tokens lexes. absurd (no_fault c.args.floats c.args.text.now tokens c.moved.result lexes (faulty c))

pub returns-in-Err-clause-fault : goal.returns-in-Err-clause-fault
returns-in-Err-clause-fault c = inl (faulty c)

pub returns-in-Err-clause-refused : goal.returns-in-Err-clause-refused
returns-in-Err-clause-refused c = λ fault here. inl (one_fault c.args.floats c.args.text.now c.moved.result fault (faulty c) here)

pub returns-in-Err-clause-only_lexemes : goal.returns-in-Err-clause-only_lexemes
returns-in-Err-clause-only_lexemes c = λ lexemes has.
    let tokens : (ts : List Token) × Lexes c.args.floats c.args.text.now ts × (map (lexeme_of c.args.text.now) ts ≡ lexemes) = has_tokens c.args.floats c.args.text.now lexemes c.utf8.text has in
    absurd (no_fault c.args.floats c.args.text.now tokens.0 c.moved.result tokens.1 (faulty c))

pub loop-at-preserved-in_ok-push : goal.loop-at-preserved-in_ok-push
loop-at-preserved-in_ok-push c = record {
  within = omega (arith, c.in-Ok.ensures.within.1, length-take {A = ℕ}, length-drop {A = ℕ});
  lexed = subst (LexedUpTo c.args.floats c.as_bytes-bytes.result.now (c.loop-at.at + c.in-Ok.front.length)) (sym c.in_ok-push.ensures.items)
      (lexed_token c.args.floats c.as_bytes-bytes.result.now c.loop-at.at c.loop-at.tokens.items c.in-Ok.front c.in-Some.kind c.loop-at.invariant.within c.loop-at.invariant.lexed
      (sym c.front_piece.ensures.piece ∙ c.in-Ok.is) c.in-Some.is);
}

pub loop-at-preserved : goal.loop-at-preserved
loop-at-preserved c = record {
  within = omega (arith, c.in-Ok.ensures.within.1, length-take {A = ℕ}, length-drop {A = ℕ});
  lexed = lexed_ignored c.args.floats c.as_bytes-bytes.result.now c.loop-at.at c.loop-at.tokens.items c.in-Ok.front c.loop-at.invariant.within c.loop-at.invariant.lexed
      (sym c.front_piece.ensures.piece ∙ c.in-Ok.is) c.in_default.is;
}

-- the text that is read to its end
whole : (c : goal.After-loop-at) → Lexes c.args.floats c.args.text.now c.loop-at.tokens.items
whole c =
    lexed_whole c.args.floats c.as_bytes-bytes.result.now c.args.text.now c.loop-at.at c.loop-at.tokens.items c.as_bytes-bytes.ensures.value
    (omega (arith, c.loop-at-test.false)) c.loop-at.invariant.lexed

pub returns-clause-found : goal.returns-clause-found
returns-clause-found c = whole c

pub returns-clause-only : goal.returns-clause-only
returns-clause-only c = λ tokens lexes. lexes_once c.args.floats c.args.text.now c.loop-at.tokens.items tokens (whole c) lexes

pub returns-clause-refused : goal.returns-clause-refused
returns-clause-refused c = λ fault here. no_fault c.args.floats c.args.text.now c.loop-at.tokens.items fault (whole c) here

pub returns-clause-lexemes : goal.returns-clause-lexemes
returns-clause-lexemes c = has_lexemes c.args.floats c.args.text.now c.loop-at.tokens.items c.utf8.text (whole c)

pub returns-clause-only_lexemes : goal.returns-clause-only_lexemes
returns-clause-only_lexemes c = λ lexemes has.
    has_lexemes_once c.args.floats c.args.text.now (map (lexeme_of c.args.text.now) c.loop-at.tokens.items) lexemes (has_lexemes c.args.floats c.args.text.now c.loop-at.tokens.items c.utf8.text (whole c)) has

pub returns-clause-in_order : goal.returns-clause-in_order
returns-clause-in_order c = in_order c.args.floats c.args.text.now c.loop-at.tokens.items (whole c)
