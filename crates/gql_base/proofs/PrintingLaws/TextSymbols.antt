-- The symbols of a UTF-8 text: its integers have 128 bits, and its strings are in UTF-8.
use Rattle.std.proofs.Common.{◌≡◌, inl, inr, ℕ, zero, suc, ◌+◌, ◌-◌, ◌<◌, ◌≤◌, true, List, [], ◌∷◌, ◌++◌, length, drop, get_or, All, IsUtf8, IsCharBoundary, refl, sym, ap, ◌∙◌, arith, Option, Some, None, subst, append_assoc, Bool}
use Rattle.std.specs.List.{AllPass}
use Rattle.std.specs.Char.{InScalarRange, encode_utf8}
use Rattle.std.proofs.Math.Utf8.{encode, encodes, scalar, scalars}
use Rattle.std.proofs.lemmas.Bool.{cases_lt, and_parts}
use Rattle.std.proofs.lemmas.Bool.Decides.{nat_tests}
use Rattle.std.proofs.lemmas.List.{length-append, length-drop, drop_all, take_at, get_or-append-add}
use Rattle.std.proofs.lemmas.List.Elements.{All-nil, All-cons}
use Rattle.std.proofs.lemmas.Str.{IsUtf8-nil, IsUtf8-append, IsUtf8-encode, IsUtf8-take, IsUtf8-drop, IsCharBoundary-after_ascii, IsCharBoundary-before_ascii, encode_ascii, length-le-encodes}
use Rattle.gql_base.specs.declared.lexical.strings.Escape.{Escape}
use Rattle.gql_base.specs.declared.lexical.token.Token.{Token}
use Rattle.gql_base.specs.lexical.Scans.{escape_at, text_value, is_plain_byte}
use Rattle.gql_base.specs.lexical.Pieces.{Lexeme, word, number, float, string as text_lexeme, block, mark, Piece, token, byte_order_mark, blank, comment, lexeme_bytes, IsLexeme, Divides}
use Rattle.gql_base.specs.lexical.Tokens.{Lexes}
use Rattle.gql_base.specs.ways.Symbols.{symbols_from}
use Rattle.gql_base.specs.printing.PrintableSymbols.{IsTextual}
use Rattle.gql_base.proofs.LexicalLaws.Escapes.{escape_some, escape_last, escape_scalar}
use Rattle.gql_base.proofs.LexicalLaws.StringValues.{value_alone, value_escape, value_plain}
use Rattle.gql_base.proofs.WayLaws.Places.{HasAsciiEnds}
use Rattle.gql_base.proofs.LexicalLaws.Borders.{after_ascii, after_piece}
use Rattle.gql_base.proofs.LexicalLaws.BlockUtf8.{block_text_is_utf8}
use Rattle.gql_base.proofs.LexicalLaws.EscapedTexts.{utf8_ascii, all_from, own_byte}
use Rattle.gql_base.proofs.LexicalLaws.DecimalTexts.{integer_fits_128}
use Rattle.gql_base.proofs.PrintingLaws.TokenSymbols.{symbol_at, symbol_in, symbols_in, symbols_are}

-- ---- values of strings

in_range : (c : ℕ) → InScalarRange c → scalar c ≡ true
in_range c (inl low) = grind (arith, nat_tests)
in_range c (inr high) = grind (arith, nat_tests)

high_plain : (b : ℕ) → 128 ≤ b → is_plain_byte b ≡ true
high_plain b high = grind (arith, nat_tests)

bytes_plain : (c : ℕ) → 128 ≤ c → AllPass is_plain_byte (encode c)
bytes_plain c high =
    all_from is_plain_byte (encode c)
    (λ k below. elim (own_byte c k below) [
      | inl same ↦ high_plain (get_or (encode c) k 0) (omega (arith, same, high))
      | inr big ↦ high_plain (get_or (encode c) k 0) big
    ])

-- texts that are shorter have values in UTF-8
abbrev ShorterOnes : ℕ → Type 0
ShorterOnes n = (text : List ℕ) → length text ≤ n → IsUtf8 text → IsUtf8 (text_value 0 text)

after_bytes : (text : List ℕ) (size : ℕ) → IsUtf8 text → 0 < size → get_or text (size - 1) 0 < 128 → IsUtf8 (drop size text)
after_bytes text size utf8 some small =
    elim (cases_lt (size - 1) (length text)) [
      | inl inside ↦
          let place : size - 1 + 1 ≡ size = omega (arith, some) in
          IsUtf8-drop text size utf8 (subst (IsCharBoundary text) place (IsCharBoundary-after_ascii text (size - 1) utf8 inside small))
      | inr past ↦ subst IsUtf8 (sym (drop_all size text (omega (arith, past)))) IsUtf8-nil
    ]

drop_next : (n c : ℕ) (cs : List ℕ) → 0 < n → drop n (c ∷ cs) ≡ drop (n - 1) cs
drop_next zero c cs some = absurd (omega (arith, some))
drop_next (suc n) c cs some = let e : n ≡ suc n - 1 = omega arith in ap (λ m. drop m cs) e

value_at : (n c : ℕ) (rest : List ℕ) (found : Option Escape) → c < 128 → IsUtf8 (c ∷ rest) → IsUtf8 rest → length rest ≤ n → escape_at (c ∷ rest) ≡ found → ShorterOnes n → IsUtf8 (text_value 0 (c ∷ rest))
value_at n c rest None low utf8 others short is next = subst IsUtf8 (sym (value_alone c rest is)) (utf8_ascii c (text_value 0 rest) low (next rest short others))
value_at n c rest (Some e) low utf8 others short is next =
    let some : 0 < e.length = escape_some (c ∷ rest) e is in
    let after : IsUtf8 (drop (e.length - 1) rest) = subst IsUtf8 (drop_next e.length c rest some) (after_bytes (c ∷ rest) e.length utf8 some (escape_last (c ∷ rest) e is)) in
    subst IsUtf8 (sym (value_escape c rest e is))
    (IsUtf8-append (encode_utf8 e.character) (text_value 0 (drop (e.length - 1) rest)) (IsUtf8-encode e.character (in_range e.character (escape_scalar (c ∷ rest) e is)))
    (next (drop (e.length - 1) rest) (omega (arith, length-drop (e.length - 1) rest, short)) after))

some_bytes : (c : ℕ) → 0 < length (encode c)
some_bytes c = omega (arith, length-le-encodes (c ∷ []), length-append (encode c) [])

value_front : (n c : ℕ) (cs : List ℕ) → scalar c ≡ true → scalars cs ≡ true → length (encode c ++ encodes cs) ≤ suc n → ShorterOnes n → IsUtf8 (text_value 0 (encode c ++ encodes cs))
value_front n c cs is are short next =
    let others : IsUtf8 (encodes cs) = (cs, (are, refl)) in
    elim (cases_lt c 128) [
      | inl low ↦
          let same : c ∷ encodes cs ≡ encode c ++ encodes cs = ap (λ xs. xs ++ encodes cs) (sym (encode_ascii c low)) in
          subst (λ t. IsUtf8 (text_value 0 t)) same
          (value_at n c (encodes cs) (escape_at (c ∷ encodes cs)) low (utf8_ascii c (encodes cs) low others) others (omega (arith, short, ap length same)) refl next)
      | inr high ↦
          subst IsUtf8 (sym (value_plain (encode c) (encodes cs) (bytes_plain c high)))
          (IsUtf8-append (encode c) (text_value 0 (encodes cs)) (IsUtf8-encode c is) (next (encodes cs) (omega (arith, short, length-append (encode c) (encodes cs), some_bytes c)) others))
    ]

value_of : (n : ℕ) (cs text : List ℕ) → scalars cs ≡ true → encodes cs ≡ text → length text ≤ suc n → ShorterOnes n → IsUtf8 (text_value 0 text)
unfolding text_value
value_of n [] text are same short next = subst (λ t. IsUtf8 (text_value 0 t)) same IsUtf8-nil
value_of n (c ∷ cs) text are same short next =
    let p = and_parts (scalar c) (scalars cs) are in
    subst (λ t. IsUtf8 (text_value 0 t)) same (value_front n c cs p.0 p.1 (omega (arith, short, ap length same)) next)

value_within : (n : ℕ) (text : List ℕ) → length text ≤ n → IsUtf8 text → IsUtf8 (text_value 0 text)
unfolding text_value
value_within zero [] short utf8 = IsUtf8-nil
value_within zero (c ∷ cs) short utf8 = absurd (omega (arith, short))
value_within (suc n) text short utf8 = value_of n utf8.0 text utf8.1.0 utf8.1.1 short (value_within n)

-- the value of a string
pub string_value_utf8 : (body : List ℕ) → IsUtf8 body → IsUtf8 (text_value 0 body)
string_value_utf8 body utf8 = value_within (length body) body (omega arith) utf8

-- what stands between marks
body_utf8 : (text marks body after : List ℕ) → text ≡ marks ++ (body ++ (marks ++ after)) → 0 < length marks → HasAsciiEnds marks → IsUtf8 text → IsUtf8 body
body_utf8 text marks body after cut some ascii utf8 =
    let rest : List ℕ = body ++ (marks ++ after) in
    let rest_utf8 : IsUtf8 rest = after_ascii text marks rest cut some ascii utf8 in
    let place : length body + 0 ≡ length body = omega arith in
    let small : get_or rest (length body) 0 < 128 = subst (λ n. get_or rest n 0 < 128) place (rw (get_or-append-add body (marks ++ after) 0 0) (first_small marks after some ascii)) in
    let inside : length body < length rest = omega (arith, length-append body (marks ++ after), length-append marks after, some) in
    subst IsUtf8 (take_at body (marks ++ after) (length body) refl) (IsUtf8-take rest (length body) rest_utf8 (IsCharBoundary-before_ascii rest (length body) inside small))
  where
    first_small : (ms others : List ℕ) → 0 < length ms → HasAsciiEnds ms → get_or (ms ++ others) 0 0 < 128
    first_small [] others more ends = absurd (omega (arith, more))
    first_small (m ∷ ms) others more ends = ends.0

-- ---- symbols

lexeme_textual : (floats : Bool) (l : Lexeme) (text after : List ℕ) (at : ℕ) → IsLexeme floats l → text ≡ lexeme_bytes l ++ after → IsUtf8 text → IsTextual floats (symbol_at at l)
unfolding symbol_at
lexeme_textual floats (word bytes) text after at is cut utf8 = is
lexeme_textual floats (number bytes) text after at is cut utf8 = integer_fits_128 bytes is
lexeme_textual floats (float bytes) text after at is cut utf8 = is
lexeme_textual floats (text_lexeme body) text after at is cut utf8 =
    string_value_utf8 body (body_utf8 text (34 ∷ []) body after (cut ∙ ap (λ xs. 34 ∷ xs) (append_assoc body (34 ∷ []) after)) (omega arith) (omega arith, omega arith) utf8)
lexeme_textual floats (block body) text after at is cut utf8 =
    block_text_is_utf8 body (body_utf8 text (34 ∷ 34 ∷ 34 ∷ []) body after (cut ∙ ap (λ xs. 34 ∷ 34 ∷ 34 ∷ xs) (append_assoc body (34 ∷ 34 ∷ 34 ∷ []) after)) (omega arith) (omega arith, omega arith) utf8)
lexeme_textual floats (mark kind) text after at is cut utf8 = is

pieces_textual : (floats : Bool) (ps : List Piece) (text : List ℕ) (at : ℕ) → IsUtf8 text → Divides floats ps text [] → All (IsTextual floats) (symbols_in at ps)
unfolding Divides symbols_in symbol_in
pieces_textual floats [] text at utf8 d = All-nil (IsTextual floats)
pieces_textual floats (token l ∷ ps) text at utf8 d =
    All-cons (IsTextual floats) (symbol_at at l) (symbols_in (at + length (lexeme_bytes l)) ps) (lexeme_textual floats l text d.0 at d.2 d.1 utf8)
    (pieces_textual floats ps d.0 (at + length (lexeme_bytes l)) (after_piece floats (token l) text d.0 d.2 d.3 d.1 utf8) d.4)
pieces_textual floats (byte_order_mark ∷ ps) text at utf8 d = pieces_textual floats ps d.0 (at + 3) (after_piece floats byte_order_mark text d.0 d.2 d.3 d.1 utf8) d.4
pieces_textual floats (blank byte ∷ ps) text at utf8 d = pieces_textual floats ps d.0 (at + 1) (after_piece floats (blank byte) text d.0 d.2 d.3 d.1 utf8) d.4
pieces_textual floats (comment bytes ∷ ps) text at utf8 d = pieces_textual floats ps d.0 (at + suc (length bytes)) (after_piece floats (comment bytes) text d.0 d.2 d.3 d.1 utf8) d.4

pub symbols_textual : (floats : Bool) (text : List ℕ) (tokens : List Token) → IsUtf8 text → Lexes floats text tokens → All (IsTextual floats) (symbols_from text tokens 0)
symbols_textual floats text tokens utf8 l =
    subst (All (IsTextual floats)) (sym (ap (λ ts. symbols_from text ts 0) l.told ∙ symbols_are floats l.pieces text utf8 l.divided)) (pieces_textual floats l.pieces text 0 utf8 l.divided)
