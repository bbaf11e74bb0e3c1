-- Where the tokens of a text lie.
use Rattle.std.proofs.Common.{◌≡◌, ℕ, zero, suc, ◌+◌, ◌-◌, ◌<◌, ◌≤◌, inl, inr, ◌&&◌, nat_le, Bool, true, if◌then◌else◌, List, [], ◌∷◌, ◌++◌, length, take, drop, get_or, map, IsUtf8, refl, sym, ap, ◌∙◌, arith, subst}
use Rattle.std.specs.List.{All}
use Rattle.std.proofs.lemmas.Bool.{cases_lt}
use Rattle.std.proofs.lemmas.Bool.Decides.{nat_tests}
use Rattle.std.proofs.lemmas.List.{get_or_past, get_or_append_left, length-append, length-drop, drop-drop, drop_at, take_at, get_or-drop, append_assoc}
use Rattle.std.proofs.lemmas.List.Elements.{All-cons}
use Rattle.std.proofs.lemmas.Str.{lead_after_ascii}
use Rattle.gql_base.specs.declared.lexical.token.Token.{Token}
use Rattle.gql_base.specs.declared.lexical.token.TokenKind.{TokenKind}
use Rattle.gql_base.specs.declared.lexical.token.TokenKind.TheVariants.{Name, Int, Float, Str, BlockStr, Bang, Dollar, Amp, OpenParen, CloseParen, Spread, Colon, Equals, At, OpenBracket, CloseBracket, OpenBrace, Pipe, CloseBrace}
use Rattle.gql_base.specs.lexical.Characters.{is_name_start, is_name_continue}
use Rattle.gql_base.specs.lexical.Numbers.{IsFloat}
use Rattle.gql_base.specs.lexical.Pieces.{Lexeme, word, number, float, string, block, mark, Piece, token, byte_order_mark, blank, comment, mark_bytes, lexeme_bytes, kind_of, IsName, IsInteger, IsLexeme, Divides, token_at, tokens_from, lexemes_of}
use Rattle.gql_base.specs.lexical.Tokens.{Lexes, HasLexemes, AreInOrder, is_border, bytes_at, lexeme_with, lexeme_of}
use Rattle.gql_base.proofs.LexicalLaws.Integers.{integer_ascii, numeral_ascii}
use Rattle.gql_base.proofs.LexicalLaws.OneDivision.{not_empty, inner_string, inner_block}

-- the tokens of a text from a place on are in order
in_order_from : (floats : Bool) (ps : List Piece) (text rest : List ℕ) (from at to : ℕ) → Divides floats ps text rest → from ≤ at → at + length text ≤ to → AreInOrder from to (tokens_from at ps)
unfolding Divides tokens_from AreInOrder
in_order_from floats [] text rest from at to d start end = omega (arith, start, end)
in_order_from floats (token lexeme ∷ ps) text rest from at to d start end =
    let long : length text ≡ length (lexeme_bytes lexeme) + length d.0 = ap length d.1 ∙ length-append (lexeme_bytes lexeme) d.0 in
    (start, omega (arith, not_empty floats (token lexeme) d.2), in_order_from floats ps d.0 rest (at + length (lexeme_bytes lexeme)) (at + length (lexeme_bytes lexeme)) to d.4 (omega arith) (omega (arith, long, end)))
in_order_from floats (byte_order_mark ∷ ps) text rest from at to d start end =
    in_order_from floats ps d.0 rest from (at + 3) to d.4 (omega (arith, start)) (omega (arith, end, ap length d.1))
in_order_from floats (blank byte ∷ ps) text rest from at to d start end =
    in_order_from floats ps d.0 rest from (at + 1) to d.4 (omega (arith, start)) (omega (arith, end, ap length d.1))
in_order_from floats (comment bytes ∷ ps) text rest from at to d start end =
    in_order_from floats ps d.0 rest from (at + suc (length bytes)) to d.4 (omega (arith, start)) (omega (arith, end, ap length d.1, length-append bytes d.0))

pub in_order : (floats : Bool) (text : List ℕ) (ts : List Token) → Lexes floats text ts → AreInOrder 0 (length text) ts
in_order floats text ts l = subst (AreInOrder 0 (length text)) (sym l.told) (in_order_from floats l.pieces text [] 0 0 (length text) l.divided (omega arith) (omega arith))

-- the first and the last byte of a token are ASCII
abbrev pub HasAsciiEnds : List ℕ → Type 0
HasAsciiEnds xs = (get_or xs 0 0 < 128) × (get_or xs (length xs - 1) 0 < 128)

start_is_ascii : (c : ℕ) → is_name_start c ≡ true → c < 128
start_is_ascii c is = grind (arith, nat_tests)

continue_is_ascii : (c : ℕ) → is_name_continue c ≡ true → c < 128
continue_is_ascii c is = grind (arith, nat_tests)

pub name_is_ascii : (bytes : List ℕ) (k : ℕ) → IsName bytes → get_or bytes k 0 < 128
name_is_ascii [] k is = absurd is
name_is_ascii (c ∷ cs) zero is = start_is_ascii c is.0
name_is_ascii (c ∷ cs) (suc k) is =
    elim (cases_lt k (length cs)) [
      | inl below ↦ continue_is_ascii (get_or cs k 0) (is.1 k 0 below)
      | inr past ↦ rw (get_or_past cs k 0 past) (omega arith)
    ]

pub get_or_after : (xs ys : List ℕ) → get_or (xs ++ ys) (length xs) 0 ≡ get_or ys 0 0
get_or_after [] ys = refl
get_or_after (x ∷ xs) ys = get_or_after xs ys

ends_with_mark : (xs : List ℕ) → get_or (xs ++ 34 ∷ []) (length (xs ++ 34 ∷ []) - 1) 0 < 128
ends_with_mark xs =
    let e : length xs ≡ length (xs ++ 34 ∷ []) - 1 = omega (arith, length-append xs (34 ∷ [])) in
    subst (λ n. get_or (xs ++ 34 ∷ []) n 0 < 128) e (rw (get_or_after xs (34 ∷ [])) (omega arith))

block_ends : (body : List ℕ) → lexeme_bytes (block body) ≡ (34 ∷ 34 ∷ 34 ∷ (body ++ 34 ∷ 34 ∷ [])) ++ 34 ∷ []
block_ends body = ap (λ xs. 34 ∷ 34 ∷ 34 ∷ xs) (sym (append_assoc body (34 ∷ 34 ∷ []) (34 ∷ [])))

mark_ends : (kind : TokenKind) → HasAsciiEnds (mark_bytes kind)
mark_ends Bang = (omega arith, omega arith)
mark_ends Dollar = (omega arith, omega arith)
mark_ends Amp = (omega arith, omega arith)
mark_ends OpenParen = (omega arith, omega arith)
mark_ends CloseParen = (omega arith, omega arith)
mark_ends Spread = (omega arith, omega arith)
mark_ends Colon = (omega arith, omega arith)
mark_ends Equals = (omega arith, omega arith)
mark_ends At = (omega arith, omega arith)
mark_ends OpenBracket = (omega arith, omega arith)
mark_ends CloseBracket = (omega arith, omega arith)
mark_ends OpenBrace = (omega arith, omega arith)
mark_ends Pipe = (omega arith, omega arith)
mark_ends CloseBrace = (omega arith, omega arith)
mark_ends Name = (omega arith, omega arith)
mark_ends Int = (omega arith, omega arith)
mark_ends Float = (omega arith, omega arith)
mark_ends Str = (omega arith, omega arith)
mark_ends BlockStr = (omega arith, omega arith)

number_ends : (bytes : List ℕ) (k : ℕ) → IsInteger bytes → get_or bytes k 0 < 128
number_ends bytes k is = rw is.cut (integer_ascii is.minus is.whole k is.is)

pub float_ends : (bytes : List ℕ) (k : ℕ) → IsFloat bytes → get_or bytes k 0 < 128
float_ends bytes k is = rw is.cut (numeral_ascii is.numeral k is.is)

pub lexeme_ends : (floats : Bool) (l : Lexeme) → IsLexeme floats l → HasAsciiEnds (lexeme_bytes l)
lexeme_ends floats (word bytes) is = (name_is_ascii bytes 0 is, name_is_ascii bytes (length bytes - 1) is)
lexeme_ends floats (number bytes) is = (number_ends bytes 0 is, number_ends bytes (length bytes - 1) is)
lexeme_ends floats (float bytes) is = (float_ends bytes 0 is.1, float_ends bytes (length bytes - 1) is.1)
lexeme_ends floats (string body) is = (omega arith, ends_with_mark (34 ∷ body))
lexeme_ends floats (block body) is = subst HasAsciiEnds (sym (block_ends body)) (omega arith, ends_with_mark (34 ∷ 34 ∷ 34 ∷ (body ++ 34 ∷ 34 ∷ [])))
lexeme_ends floats (mark kind) is = mark_ends kind

-- a byte of a part of a text is one of the text
byte_of_part : (text xs after : List ℕ) (at k : ℕ) → drop at text ≡ xs ++ after → k < length xs → get_or text (at + k) 0 ≡ get_or xs k 0
byte_of_part text xs after at k cut below = sym (get_or-drop at text k 0) ∙ ap (λ ys. get_or ys k 0) cut ∙ get_or_append_left xs after 0 k below

border_at : (text : List ℕ) (at : ℕ) → at < length text → get_or text at 0 < 128 → is_border text at ≡ true
border_at text at below small = grind (arith, nat_tests)

border_end : (text : List ℕ) → is_border text (length text) ≡ true
border_end text = grind (arith, nat_tests)

border_lead : (text : List ℕ) (at : ℕ) → at < length text → (128 ≤ get_or text at 0 → 192 ≤ get_or text at 0) → is_border text at ≡ true
border_lead text at below lead = grind (arith, nat_tests)

border_after : (text : List ℕ) (at : ℕ) → IsUtf8 text → at < length text → get_or text at 0 < 128 → is_border text (at + 1) ≡ true
border_after text at utf8 below small =
    elim (cases_lt (at + 1) (length text)) [
      | inl inside ↦ border_lead text (at + 1) inside (lead_after_ascii text at utf8 small inside)
      | inr end ↦ let e : at + 1 ≡ length text = omega arith in rw e (border_end text)
    ]

pub range_when : (b c d : Bool) (xs : List ℕ) → b ≡ true → c ≡ true → d ≡ true → (if b && c && d then xs else []) ≡ xs
range_when b c d xs e f g = rw (e, f, g) refl

pub nat_le_more : (at n : ℕ) → nat_le at (at + n) ≡ true
nat_le_more at n = grind (arith, nat_tests)

-- a part of a text that is ASCII, and not empty
module _ (text xs after : List ℕ) (at : ℕ) (within : at ≤ length text) (cut : drop at text ≡ xs ++ after) (some : 0 < length xs) (ascii : HasAsciiEnds xs) where
  part_inside : at + length xs ≤ length text
  part_inside = omega (arith, ap length cut, length-append xs after, length-drop at text, within)

  first_is_ascii : get_or text (at + 0) 0 < 128
  first_is_ascii = rw (byte_of_part text xs after at 0 cut some) ascii.0

  last_is_ascii : get_or text (at + (length xs - 1)) 0 < 128
  last_is_ascii = rw (byte_of_part text xs after at (length xs - 1) cut (omega (arith, some))) ascii.1

  pub part_start : is_border text at ≡ true
  part_start =
      let e : at + 0 ≡ at = omega arith in
      border_at text at (omega (arith, part_inside, some)) (subst (λ n. get_or text n 0 < 128) e first_is_ascii)

  pub part_end : IsUtf8 text → is_border text (at + length xs) ≡ true
  part_end utf8 =
      let e : at + (length xs - 1) + 1 ≡ at + length xs = omega (arith, some) in
      subst (λ n. is_border text n ≡ true) e
      (border_after text (at + (length xs - 1)) utf8 (omega (arith, part_inside, some)) last_is_ascii)

  part_bytes : IsUtf8 text → bytes_at text (record { start = at; end = at + length xs }) ≡ xs
  part_bytes utf8 =
      range_when _ _ _ _ (nat_le_more at (length xs)) part_start (part_end utf8)
      ∙ ap (take (at + length xs - at)) cut ∙ take_at xs after (at + length xs - at) (omega arith)

-- the bytes of a token's span are the token's
pub bytes_of_token : (floats : Bool) (text after : List ℕ) (at : ℕ) (l : Lexeme) → IsUtf8 text → at ≤ length text → drop at text ≡ lexeme_bytes l ++ after → IsLexeme floats l → bytes_at text (token_at at l).span ≡ lexeme_bytes l
bytes_of_token floats text after at l utf8 within cut is = part_bytes text (lexeme_bytes l) after at within cut (not_empty floats (token l) is) (lexeme_ends floats l is) utf8

pub same_lexeme : (floats : Bool) (l : Lexeme) → IsLexeme floats l → lexeme_with (kind_of l) (lexeme_bytes l) ≡ l
same_lexeme floats (word bytes) is = refl
same_lexeme floats (number bytes) is = refl
same_lexeme floats (float bytes) is = refl
same_lexeme floats (string body) is = ap string (inner_string body)
same_lexeme floats (block body) is = ap block (inner_block body)
same_lexeme floats (mark Bang) is = refl
same_lexeme floats (mark OpenParen) is = refl
same_lexeme floats (mark CloseParen) is = refl
same_lexeme floats (mark Colon) is = refl
same_lexeme floats (mark At) is = refl
same_lexeme floats (mark OpenBracket) is = refl
same_lexeme floats (mark CloseBracket) is = refl
same_lexeme floats (mark OpenBrace) is = refl
same_lexeme floats (mark CloseBrace) is = refl
same_lexeme floats (mark Name) is = absurd (omega (arith, is))
same_lexeme floats (mark Int) is = absurd (omega (arith, is))
same_lexeme floats (mark Float) is = absurd (omega (arith, is))
same_lexeme floats (mark Str) is = absurd (omega (arith, is))
same_lexeme floats (mark BlockStr) is = absurd (omega (arith, is))
same_lexeme floats (mark Dollar) is = refl
same_lexeme floats (mark Amp) is = refl
same_lexeme floats (mark Spread) is = refl
same_lexeme floats (mark Equals) is = refl
same_lexeme floats (mark Pipe) is = refl

-- what holds from the place after some bytes on
lexemes_after : (floats : Bool) (ps : List Piece) (text after xs : List ℕ) (at : ℕ) → (at + length xs ≤ length text → Divides floats ps (drop (at + length xs) text) [] → map (lexeme_of text) (tokens_from (at + length xs) ps) ≡ lexemes_of ps) → at ≤ length text → drop at text ≡ xs ++ after → Divides floats ps after [] → map (lexeme_of text) (tokens_from (at + length xs) ps) ≡ lexemes_of ps
lexemes_after floats ps text after xs at next within cut d =
    let rest : drop (at + length xs) text ≡ after = sym (drop-drop (length xs) at text) ∙ ap (drop (length xs)) cut ∙ drop_at xs after (length xs) refl in
    next (omega (arith, ap length cut, length-append xs after, length-drop at text)) (subst (λ t. Divides floats ps t []) (sym rest) d)

lexemes_from : (floats : Bool) (ps : List Piece) (text : List ℕ) (at : ℕ) → IsUtf8 text → at ≤ length text → Divides floats ps (drop at text) [] → map (lexeme_of text) (tokens_from at ps) ≡ lexemes_of ps
unfolding Divides tokens_from lexemes_of
lexemes_from floats [] text at utf8 within d = refl
lexemes_from floats (token l ∷ ps) text at utf8 within d =
    let here : lexeme_of text (token_at at l) ≡ l = ap (lexeme_with (kind_of l)) (bytes_of_token floats text d.0 at l utf8 within d.1 d.2) ∙ same_lexeme floats l d.2 in
    let others : map (lexeme_of text) (tokens_from (at + length (lexeme_bytes l)) ps) ≡ lexemes_of ps = lexemes_after floats ps text d.0 (lexeme_bytes l) at (lexemes_from floats ps text (at + length (lexeme_bytes l)) utf8) within d.1 d.4 in
    cc (here, others)
lexemes_from floats (byte_order_mark ∷ ps) text at utf8 within d = lexemes_after floats ps text d.0 (239 ∷ 187 ∷ 191 ∷ []) at (lexemes_from floats ps text (at + 3) utf8) within d.1 d.4
lexemes_from floats (blank byte ∷ ps) text at utf8 within d = lexemes_after floats ps text d.0 (byte ∷ []) at (lexemes_from floats ps text (at + 1) utf8) within d.1 d.4
lexemes_from floats (comment bytes ∷ ps) text at utf8 within d = lexemes_after floats ps text d.0 (35 ∷ bytes) at (lexemes_from floats ps text (at + suc (length bytes)) utf8) within d.1 d.4

pub has_lexemes : (floats : Bool) (text : List ℕ) (ts : List Token) → IsUtf8 text → Lexes floats text ts → HasLexemes floats text (map (lexeme_of text) ts)
has_lexemes floats text ts utf8 l = record { pieces = l.pieces; divided = l.divided; told = ap (map (lexeme_of text)) l.told ∙ lexemes_from floats l.pieces text 0 utf8 (omega arith) l.divided }

-- what has lexemes has tokens that are these lexemes
pub has_tokens : (floats : Bool) (text : List ℕ) (lexemes : List Lexeme) → IsUtf8 text → HasLexemes floats text lexemes → (ts : List Token) × Lexes floats text ts × (map (lexeme_of text) ts ≡ lexemes)
has_tokens floats text lexemes utf8 h =
    (tokens_from 0 h.pieces, record { pieces = h.pieces; divided = h.divided; told = refl }, lexemes_from floats h.pieces text 0 utf8 (omega arith) h.divided ∙ sym h.told)

LiesBelow : ℕ → Token → Type 0
LiesBelow to t = (t.span.start < t.span.end) × (t.span.end ≤ to)

order_ends : (from to : ℕ) (ts : List Token) → AreInOrder from to ts → from ≤ to
unfolding AreInOrder
order_ends from to [] order = order
order_ends from to (t ∷ ts) order = omega (arith, order.0, order.1, order_ends t.span.end to ts order.2)

order_within : (from to : ℕ) (ts : List Token) → AreInOrder from to ts → All (LiesBelow to) ts
unfolding AreInOrder LiesBelow
order_within from to [] order = λ k d below. absurd (omega (arith, below))
order_within from to (t ∷ ts) order = All-cons (LiesBelow to) t ts (order.1, order_ends t.span.end to ts order.2) (order_within t.span.end to ts order.2)

pub lie_within : (floats : Bool) (text : List ℕ) (ts : List Token) → Lexes floats text ts → All (λ t. (t.span.start < t.span.end) × (t.span.end ≤ length text)) ts
unfolding LiesBelow
lie_within floats text ts l = order_within 0 (length text) ts (in_order floats text ts l)
