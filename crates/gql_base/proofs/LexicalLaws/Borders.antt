-- Tokens of a UTF-8 text lie at the borders of its characters.
use Rattle.std.proofs.Common.{◌≡◌, ℕ, suc, ◌+◌, ◌-◌, ◌<◌, ◌≤◌, true, false, List, [], ◌∷◌, ◌++◌, length, drop, get_or, IsUtf8, IsCharBoundary, refl, sym, ap, ◌∙◌, arith, subst, Bool}
use Rattle.std.specs.List.{All}
use Rattle.std.proofs.lemmas.Bool.Decides.{nat_tests}
use Rattle.std.proofs.lemmas.List.{length-append, length-drop, drop_at, get_or_append_left}
use Rattle.std.proofs.lemmas.List.Elements.{All-cons}
use Rattle.std.proofs.lemmas.Str.{IsUtf8-nil, IsUtf8-drop, IsUtf8-past_char, IsCharBoundary-after_ascii, IsCharBoundary-before_ascii}
use Rattle.gql_base.specs.declared.lexical.token.Token.{Token}
use Rattle.gql_base.specs.lexical.Characters.{is_blank, is_comment_byte}
use Rattle.gql_base.specs.lexical.Pieces.{Lexeme, Piece, token, byte_order_mark, blank, comment, lexeme_bytes, piece_bytes, IsLexeme, IsPiece, EndsBefore, Divides, token_at, tokens_from}
use Rattle.gql_base.specs.lexical.Tokens.{Lexes, is_border}
use Rattle.gql_base.proofs.LexicalLaws.OneDivision.{not_empty}
use Rattle.gql_base.proofs.WayLaws.Places.{HasAsciiEnds, lexeme_ends, part_start, part_end, get_or_after}
use Rattle.gql_base.proofs.LexicalLaws.Runs.{rest_after}

-- what follows some ASCII bytes of a text is a text
pub after_ascii : (text xs after : List ℕ) → text ≡ xs ++ after → 0 < length xs → HasAsciiEnds xs → IsUtf8 text → IsUtf8 after
after_ascii text xs after cut some ascii utf8 =
    let last : length xs - 1 < length xs = omega (arith, some) in
    let small : get_or text (length xs - 1) 0 < 128 = rw cut (rw (get_or_append_left xs after 0 (length xs - 1) last) ascii.1) in
    let inside : length xs - 1 < length text = omega (arith, last, ap length cut, length-append xs after) in
    let end : length xs - 1 + 1 ≡ length xs = omega (arith, some) in
    subst IsUtf8 (ap (drop (length xs)) cut ∙ drop_at xs after (length xs) refl)
    (IsUtf8-drop text (length xs) utf8 (subst (IsCharBoundary text) end (IsCharBoundary-after_ascii text (length xs - 1) utf8 inside small)))

blank_is_ascii : (c : ℕ) → is_blank c ≡ true → c < 128
blank_is_ascii c is = grind (arith, nat_tests)

one_is_ascii : (c : ℕ) → c < 128 → HasAsciiEnds (c ∷ [])
one_is_ascii c small = (small, small)

no_comment_is_ascii : (c : ℕ) → is_comment_byte c ≡ false → c < 128
no_comment_is_ascii c is = grind (arith, nat_tests)

-- what follows a comment is a text
after_comment : (text xs after : List ℕ) → text ≡ xs ++ after → EndsBefore (comment xs) after → IsUtf8 text → IsUtf8 after
after_comment text xs [] cut ends utf8 = IsUtf8-nil
after_comment text xs (c ∷ cs) cut ends utf8 =
    let small : get_or text (length xs) 0 < 128 = rw cut (rw (get_or_after xs (c ∷ cs)) (no_comment_is_ascii c ends)) in
    let inside : length xs < length text = omega (arith, ap length cut, length-append xs (c ∷ cs)) in
    subst IsUtf8 (ap (drop (length xs)) cut ∙ drop_at xs (c ∷ cs) (length xs) refl)
    (IsUtf8-drop text (length xs) utf8 (IsCharBoundary-before_ascii text (length xs) inside small))

-- what follows a piece of a text is a text
pub after_piece : (floats : Bool) (p : Piece) (text after : List ℕ) → IsPiece floats p → EndsBefore p after → text ≡ piece_bytes p ++ after → IsUtf8 text → IsUtf8 after
unfolding lib.Utf8.encode
after_piece floats (token l) text after is ends cut utf8 = after_ascii text (lexeme_bytes l) after cut (not_empty floats (token l) is) (lexeme_ends floats l is) utf8
after_piece floats byte_order_mark text after is ends cut utf8 = IsUtf8-past_char text after 65279 utf8 cut
after_piece floats (blank c) text after is ends cut utf8 = after_ascii text (c ∷ []) after cut (omega arith) (one_is_ascii c (blank_is_ascii c is)) utf8
after_piece floats (comment bytes) text after is ends cut utf8 = after_comment text (35 ∷ bytes) after cut ends utf8

border_true : (text : List ℕ) (at : ℕ) → is_border text at ≡ true → IsCharBoundary text at
border_true text at is = (grind (arith, nat_tests), λ below high. grind (arith, nat_tests))

HasBorders : List ℕ → Token → Type 0
HasBorders text t = IsCharBoundary text t.span.start × IsCharBoundary text t.span.end

borders_after : (floats : Bool) (ps : List Piece) (text after xs : List ℕ) (at : ℕ) → (at + length xs ≤ length text → Divides floats ps (drop (at + length xs) text) [] → All (HasBorders text) (tokens_from (at + length xs) ps)) → at ≤ length text → drop at text ≡ xs ++ after → Divides floats ps after [] → All (HasBorders text) (tokens_from (at + length xs) ps)
borders_after floats ps text after xs at next within cut d =
    next (omega (arith, ap length cut, length-append xs after, length-drop at text, within)) (subst (λ t. Divides floats ps t []) (sym (rest_after text xs after at cut)) d)

token_borders : (floats : Bool) (text after : List ℕ) (at : ℕ) (l : Lexeme) → IsUtf8 text → at ≤ length text → drop at text ≡ lexeme_bytes l ++ after → IsLexeme floats l → HasBorders text (token_at at l)
unfolding HasBorders
token_borders floats text after at l utf8 within cut is = (
  border_true text at (part_start text (lexeme_bytes l) after at within cut (not_empty floats (token l) is) (lexeme_ends floats l is)),
  border_true text (at + length (lexeme_bytes l)) (part_end text (lexeme_bytes l) after at within cut (not_empty floats (token l) is) (lexeme_ends floats l is) utf8),
)

borders_from : (floats : Bool) (ps : List Piece) (text : List ℕ) (at : ℕ) → IsUtf8 text → at ≤ length text → Divides floats ps (drop at text) [] → All (HasBorders text) (tokens_from at ps)
unfolding Divides tokens_from
borders_from floats [] text at utf8 within d = λ k x below. absurd (omega (arith, below))
borders_from floats (token l ∷ ps) text at utf8 within d =
    All-cons (HasBorders text) (token_at at l) (tokens_from (at + length (lexeme_bytes l)) ps) (token_borders floats text d.0 at l utf8 within d.1 d.2)
    (borders_after floats ps text d.0 (lexeme_bytes l) at (borders_from floats ps text (at + length (lexeme_bytes l)) utf8) within d.1 d.4)
borders_from floats (byte_order_mark ∷ ps) text at utf8 within d = borders_after floats ps text d.0 (239 ∷ 187 ∷ 191 ∷ []) at (borders_from floats ps text (at + 3) utf8) within d.1 d.4
borders_from floats (blank byte ∷ ps) text at utf8 within d = borders_after floats ps text d.0 (byte ∷ []) at (borders_from floats ps text (at + 1) utf8) within d.1 d.4
borders_from floats (comment bytes ∷ ps) text at utf8 within d = borders_after floats ps text d.0 (35 ∷ bytes) at (borders_from floats ps text (at + suc (length bytes)) utf8) within d.1 d.4

pub have_borders : (floats : Bool) (text : List ℕ) (ts : List Token) → IsUtf8 text → Lexes floats text ts → All (λ t. IsCharBoundary text t.span.start × IsCharBoundary text t.span.end) ts
unfolding HasBorders
have_borders floats text ts utf8 l = subst (All (HasBorders text)) (sym l.told) (borders_from floats l.pieces text 0 utf8 (omega arith) l.divided)
