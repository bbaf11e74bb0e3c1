-- A text is divided in one way, and up to its end or to one fault.
use Rattle.std.proofs.Common.{◌≡◌, ℕ, zero, suc, ◌-◌, ◌<◌, ◌≤◌, ◌⊎◌, inl, inr, ◌==◌, true, false, if◌then◌else◌, List, [], ◌∷◌, ◌++◌, length, take, drop, refl, sym, ap, ◌∙◌, arith, Option, Some, None, Result, Ok, Err, subst, Bool}
use Rattle.std.proofs.lemmas.Bool.Decides.{nat_tests}
use Rattle.std.proofs.lemmas.List.{length-append, length-drop, drop-drop, drop_at, take_at}
use Rattle.gql_base.specs.declared.lexical.lexing.Front.{Front}
use Rattle.gql_base.specs.declared.lexical.token.Token.{Token}
use Rattle.gql_base.specs.declared.lexical.token.TokenKind.{TokenKind}
use Rattle.gql_base.specs.declared.lexical.token.TokenKind.TheVariants.{Name, Int, Float, Str, BlockStr, Bang, Dollar, Amp, OpenParen, CloseParen, Spread, Colon, Equals, At, OpenBracket, CloseBracket, OpenBrace, Pipe, CloseBrace}
use Rattle.gql_base.specs.lexical.Characters.{is_blank}
use Rattle.gql_base.specs.lexical.Numbers.{IsWhole, Numeral, minus_bytes, fraction_bytes, exponent_bytes, numeral_bytes, IsNumeral}
use Rattle.gql_base.specs.lexical.Pieces.{Lexeme, word, number, float, string, block, mark, Piece, token, byte_order_mark, blank, comment, piece_bytes, IsPiece, EndsBefore, Divides, BeginsNothing, tokens_from, lexemes_of}
use Rattle.gql_base.specs.declared.lexical.lexing.LexFault.{LexFault}
use Rattle.gql_base.specs.declared.lexical.lexing.LexFault.TheVariants.{BadChar}
use Rattle.gql_base.specs.lexical.Faults.{HasFault, BeginsWithFault, moved}
use Rattle.gql_base.specs.lexical.Tokens.{Lexes, HasLexemes, inner}
use Rattle.gql_base.specs.lexical.Fronts.{front_of}
use Rattle.gql_base.proofs.LexicalLaws.FrontPieces.{piece_kind, outline, front_is, begins_nothing, BeginsWith, begins_with, ok, ok_same, err_same}
use Rattle.gql_base.proofs.LexicalLaws.FrontFaults.{fault_is, fault_found}
use Rattle.gql_base.proofs.LexicalLaws.Divisions.{extent, extent_is}

-- where fronts of one length and what follows them make the same list, they are the same
same_parts : (xs ys a b : List ℕ) → length xs ≡ length ys → xs ++ a ≡ ys ++ b → (xs ≡ ys) × (a ≡ b)
same_parts xs ys a b long same = (
  sym (take_at xs a (length ys) long) ∙ ap (take (length ys)) same ∙ take_at ys b (length ys) refl,
  sym (drop_at xs a (length ys) long) ∙ ap (drop (length ys)) same ∙ drop_at ys b (length ys) refl,
)

-- the ignored piece that has these bytes
ignored_with : List ℕ → Piece
ignored_with [] = byte_order_mark
ignored_with (c ∷ cs) = if c == 35 then comment cs else (if c == 239 then byte_order_mark else blank c)

-- the piece that has this kind and these bytes
piece_with : Option TokenKind → List ℕ → Piece
piece_with None bytes = ignored_with bytes
piece_with (Some Name) bytes = token (word bytes)
piece_with (Some Int) bytes = token (number bytes)
piece_with (Some Float) bytes = token (float bytes)
piece_with (Some Str) bytes = token (string (inner 1 bytes))
piece_with (Some BlockStr) bytes = token (block (inner 3 bytes))
piece_with (Some kind) bytes = token (mark kind)

blank_is_no_comment : (c : ℕ) → is_blank c ≡ true → (c == 35) ≡ false
blank_is_no_comment c is = grind (arith, nat_tests)

blank_is_no_byte_order_mark : (c : ℕ) → is_blank c ≡ true → (c == 239) ≡ false
blank_is_no_byte_order_mark c is = grind (arith, nat_tests)

pub inner_string : (body : List ℕ) → inner 1 (34 ∷ (body ++ 34 ∷ [])) ≡ body
inner_string body = take_at body (34 ∷ []) (suc (length (body ++ 34 ∷ [])) - 2) (omega (arith, length-append body (34 ∷ [])))

pub inner_block : (body : List ℕ) → inner 3 (34 ∷ 34 ∷ 34 ∷ (body ++ 34 ∷ 34 ∷ 34 ∷ [])) ≡ body
inner_block body = take_at body (34 ∷ 34 ∷ 34 ∷ []) (suc (suc (suc (length (body ++ 34 ∷ 34 ∷ 34 ∷ [])))) - 6) (omega (arith, length-append body (34 ∷ 34 ∷ 34 ∷ [])))

piece_is : (floats : Bool) (p : Piece) → IsPiece floats p → piece_with (piece_kind p) (piece_bytes p) ≡ p
unfolding ignored_with piece_with
piece_is floats (token (word bytes)) is = refl
piece_is floats (token (number bytes)) is = refl
piece_is floats (token (float bytes)) is = refl
piece_is floats (token (string body)) is = ap (λ xs. token (string xs)) (inner_string body)
piece_is floats (token (block body)) is = ap (λ xs. token (block xs)) (inner_block body)
piece_is floats (token (mark Bang)) is = refl
piece_is floats (token (mark OpenParen)) is = refl
piece_is floats (token (mark CloseParen)) is = refl
piece_is floats (token (mark Colon)) is = refl
piece_is floats (token (mark At)) is = refl
piece_is floats (token (mark OpenBracket)) is = refl
piece_is floats (token (mark CloseBracket)) is = refl
piece_is floats (token (mark OpenBrace)) is = refl
piece_is floats (token (mark CloseBrace)) is = refl
piece_is floats (token (mark Name)) is = absurd (omega (arith, is))
piece_is floats (token (mark Int)) is = absurd (omega (arith, is))
piece_is floats (token (mark Float)) is = absurd (omega (arith, is))
piece_is floats (token (mark Str)) is = absurd (omega (arith, is))
piece_is floats (token (mark BlockStr)) is = absurd (omega (arith, is))
piece_is floats (token (mark Dollar)) is = refl
piece_is floats (token (mark Amp)) is = refl
piece_is floats (token (mark Spread)) is = refl
piece_is floats (token (mark Equals)) is = refl
piece_is floats (token (mark Pipe)) is = refl
piece_is floats byte_order_mark is = refl
piece_is floats (blank byte) is = rw (blank_is_no_comment byte is) (rw (blank_is_no_byte_order_mark byte is) refl)
piece_is floats (comment bytes) is = refl

-- two pieces at the front of one text are the same, if each is as long as possible
same_front : (floats : Bool) (p q : Piece) (a b : List ℕ) → IsPiece floats p → EndsBefore p a → IsPiece floats q → EndsBefore q b → piece_bytes p ++ a ≡ piece_bytes q ++ b → (p ≡ q) × (a ≡ b)
same_front floats p q a b is_p ends_p is_q ends_q same =
    let found : ok (outline p) ≡ ok (outline q) = sym (front_is floats p a is_p ends_p) ∙ ap (front_of floats) same ∙ front_is floats q b is_q ends_q in
    let told : outline p ≡ outline q = ok_same (outline p) (outline q) found in
    let parts : (piece_bytes p ≡ piece_bytes q) × (a ≡ b) = same_parts (piece_bytes p) (piece_bytes q) a b (ap (λ f. f.length) told) same in (
      sym (piece_is floats p is_p) ∙ ap (λ k. piece_with k (piece_bytes p)) (ap (λ f. f.kind) told) ∙ ap (piece_with (piece_kind q)) parts.0 ∙ piece_is floats q is_q,
      parts.1,
    )

-- two divisions of one text are the same, if nothing begins where they end
pub same_division : (floats : Bool) (ps qs : List Piece) (text other a b : List ℕ) → text ≡ other → Divides floats ps text a → Divides floats qs other b → BeginsNothing floats a → BeginsNothing floats b → (ps ≡ qs) × (a ≡ b)
unfolding Divides
same_division floats [] [] text other a b same d e stops_a stops_b = (refl, sym d ∙ same ∙ e)
same_division floats [] (q ∷ qs) text other a b same d e stops_a stops_b = absurd (stops_a q e.0 (sym d ∙ same ∙ e.1) e.2 e.3)
same_division floats (p ∷ ps) [] text other a b same d e stops_a stops_b = absurd (stops_b p d.0 (sym e ∙ sym same ∙ d.1) d.2 d.3)
same_division floats (p ∷ ps) (q ∷ qs) text other a b same d e stops_a stops_b =
    let first : (p ≡ q) × (d.0 ≡ e.0) = same_front floats p q d.0 e.0 d.2 d.3 e.2 e.3 (sym d.1 ∙ same ∙ e.1) in
    let others : (ps ≡ qs) × (a ≡ b) = same_division floats ps qs d.0 e.0 a b first.1 d.4 e.4 stops_a stops_b in
    (cc (first.0, others.0), others.1)

-- nothing begins at the end
pub at_end : (floats : Bool) → BeginsNothing floats []
unfolding front_of
at_end floats = begins_nothing floats [] (BadChar 0) refl

pub lexes_once : (floats : Bool) (text : List ℕ) (ts us : List Token) → Lexes floats text ts → Lexes floats text us → ts ≡ us
lexes_once floats text ts us l m =
    let same : (l.pieces ≡ m.pieces) × ([] ≡ []) = same_division floats l.pieces m.pieces text text [] [] refl l.divided m.divided (at_end floats) (at_end floats) in
    l.told ∙ ap (tokens_from 0) same.0 ∙ sym m.told

pub has_lexemes_once : (floats : Bool) (text : List ℕ) (ls ms : List Lexeme) → HasLexemes floats text ls → HasLexemes floats text ms → ls ≡ ms
has_lexemes_once floats text ls ms l m =
    let same : (l.pieces ≡ m.pieces) × ([] ≡ []) = same_division floats l.pieces m.pieces text text [] [] refl l.divided m.divided (at_end floats) (at_end floats) in
    l.told ∙ ap lexemes_of same.0 ∙ sym m.told

-- nothing begins where a fault is
stops : (floats : Bool) (text : List ℕ) (fault : LexFault) → BeginsWithFault floats text fault → BeginsNothing floats text
stops floats text fault is = begins_nothing floats text fault (fault_found floats text fault is)

pub no_fault : (floats : Bool) (text : List ℕ) (ts : List Token) (fault : LexFault) → Lexes floats text ts → HasFault floats text fault → ⊥
no_fault floats text ts fault l bad =
    let same : (l.pieces ≡ bad.pieces) × ([] ≡ drop bad.at text) = same_division floats l.pieces bad.pieces text text [] (drop bad.at text) refl l.divided bad.divided (at_end floats) (stops floats (drop bad.at text) bad.first bad.begins) in
    omega (arith, bad.inside, ap length same.1, length-drop bad.at text)

pub one_fault : (floats : Bool) (text : List ℕ) (fault other : LexFault) → HasFault floats text fault → HasFault floats text other → fault ≡ other
one_fault floats text fault other l m =
    let same : (l.pieces ≡ m.pieces) × (drop l.at text ≡ drop m.at text) =
    same_division floats l.pieces m.pieces text text (drop l.at text) (drop m.at text) refl l.divided m.divided (stops floats (drop l.at text) l.first l.begins) (stops floats (drop m.at text) m.first m.begins) in
    let place : l.at ≡ m.at = omega (arith, l.inside, m.inside, ap length same.1, length-drop l.at text, length-drop m.at text) in
    let first : l.first ≡ m.first = err_same l.first m.first (sym (fault_found floats (drop l.at text) l.first l.begins) ∙ ap (front_of floats) same.1 ∙ fault_found floats (drop m.at text) m.first m.begins) in
    l.told ∙ ap (λ n. moved n l.first) place ∙ ap (moved m.at) first ∙ sym m.told

-- A text is divided up to its end, or to a place where a fault is.
pub record Divided (floats : Bool) (text : List ℕ) : Type 0 where
  pub pieces : List Piece
  pub rest : List ℕ
  pub divided : Divides floats pieces text rest
  pub stops : (length rest ≡ 0) ⊎ ((fault : LexFault) × BeginsWithFault floats rest fault)

whole_some : (ws : List ℕ) → IsWhole ws → 0 < length ws
whole_some [] is = absurd is
whole_some (c ∷ cs) is = omega arith

numeral_some : (n : Numeral) (bytes : List ℕ) → bytes ≡ numeral_bytes n → IsNumeral n → 0 < length bytes
numeral_some n bytes cut is =
    omega (arith, ap length cut, length-append (minus_bytes n.minus) (n.whole ++ (fraction_bytes n.fraction ++ exponent_bytes n.exponent)), length-append n.whole (fraction_bytes n.fraction ++ exponent_bytes n.exponent), whole_some n.whole is.0)

pub not_empty : (floats : Bool) (p : Piece) → IsPiece floats p → 0 < length (piece_bytes p)
not_empty floats (token (word [])) is = absurd is
not_empty floats (token (word (c ∷ cs))) is = omega arith
not_empty floats (token (number bytes)) is = omega (arith, ap length is.cut, length-append (minus_bytes is.minus) is.whole, whole_some is.whole is.is)
not_empty floats (token (float bytes)) is = numeral_some is.1.numeral bytes is.1.cut is.1.is
not_empty floats (token (string body)) is = omega arith
not_empty floats (token (block body)) is = omega arith
not_empty floats (token (mark kind)) is = is
not_empty floats byte_order_mark is = omega arith
not_empty floats (blank byte) is = omega arith
not_empty floats (comment bytes) is = omega arith

divided_after : (floats : Bool) (text : List ℕ) (f : Front) (begins : BeginsWith floats text f) → Divided floats (drop f.length text) → Divided floats text
unfolding Divides
divided_after floats text f begins d = record { pieces = begins.piece ∷ d.pieces; rest = d.rest; divided = (drop f.length text, begins.cut, begins.is, begins.ends, d.divided); stops = d.stops }

shorter : (floats : Bool) (text : List ℕ) (f : Front) → BeginsWith floats text f → length (drop f.length text) < length text
shorter floats text f begins = omega (arith, ap length begins.cut, length-append (piece_bytes begins.piece) (drop f.length text), not_empty floats begins.piece begins.is)

divided_here : (floats : Bool) (text : List ℕ) → (length text ≡ 0) ⊎ ((fault : LexFault) × BeginsWithFault floats text fault) → Divided floats text
unfolding Divides
divided_here floats text here = record { pieces = []; rest = text; divided = refl; stops = here }

divided_step : (floats : Bool) (n : ℕ) (text : List ℕ) (found : Result Front LexFault) → length text ≤ suc n → front_of floats text ≡ found → ((others : List ℕ) → length others ≤ n → Divided floats others) → Divided floats text
divided_step floats n text (Err fault) short is shorter_ones = divided_here floats text (inr (fault, fault_is floats text fault is))
divided_step floats n text (Ok f) short is shorter_ones =
    let begins : BeginsWith floats text f = begins_with floats text f is in
    divided_after floats text f begins (shorter_ones (drop f.length text) (omega (arith, short, shorter floats text f begins)))

pub divided_by : (floats : Bool) (n : ℕ) (text : List ℕ) → length text ≤ n → Divided floats text
divided_by floats zero [] short = divided_here floats [] (inl refl)
divided_by floats zero (c ∷ cs) short = absurd (omega (arith, short))
divided_by floats (suc n) [] short = divided_here floats [] (inl refl)
divided_by floats (suc n) (c ∷ cs) short = divided_step floats n (c ∷ cs) (front_of floats (c ∷ cs)) short refl (divided_by floats n)

-- what follows pieces is the text from the place after them on
rest_is : (floats : Bool) (ps : List Piece) (text rest : List ℕ) → Divides floats ps text rest → drop (extent ps) text ≡ rest
unfolding Divides extent
rest_is floats [] text rest d = d
rest_is floats (p ∷ ps) text rest d =
    sym (drop-drop (extent ps) (length (piece_bytes p)) text) ∙ ap (drop (extent ps)) (ap (drop (length (piece_bytes p))) d.1 ∙ drop_at (piece_bytes p) d.0 (length (piece_bytes p)) refl) ∙ rest_is floats ps d.0 rest d.4

lexes_or_not : (floats : Bool) (text : List ℕ) (ps : List Piece) (rest : List ℕ) → Divides floats ps text rest → (length rest ≡ 0) ⊎ ((fault : LexFault) × BeginsWithFault floats rest fault) → ((ts : List Token) × Lexes floats text ts) ⊎ ((fault : LexFault) × HasFault floats text fault)
lexes_or_not floats text ps [] d here = inl (tokens_from 0 ps, record { pieces = ps; divided = d; told = refl })
lexes_or_not floats text ps (c ∷ cs) d here =
    elim here [
      | inl none ↦ absurd (omega (arith, none))
      | inr bad ↦
          let place : drop (extent ps) text ≡ c ∷ cs = rest_is floats ps text (c ∷ cs) d in
          inr (
            moved (extent ps) bad.0,
            record {
              at = extent ps;
              inside = omega (arith, extent_is floats ps text (c ∷ cs) d);
              pieces = ps;
              divided = subst (Divides floats ps text) (sym place) d;
              first = bad.0;
              begins = subst (λ t. BeginsWithFault floats t bad.0) (sym place) bad.1;
              told = refl;
            },
          )
    ]

pub lexes_or_has_fault : (floats : Bool) (text : List ℕ) → ((ts : List Token) × Lexes floats text ts) ⊎ ((fault : LexFault) × HasFault floats text fault)
lexes_or_has_fault floats text =
    let d : Divided floats text = divided_by floats (length text) text (omega arith) in
    lexes_or_not floats text d.pieces d.rest d.divided d.stops
