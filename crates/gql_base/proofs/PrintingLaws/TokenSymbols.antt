-- The symbols of a text's tokens are those of the pieces that it is divided into.
use Rattle.std.proofs.Common.{◌≡◌, ℕ, suc, ◌+◌, ◌-◌, ◌<◌, ◌≤◌, true, nat_le, List, [], ◌∷◌, ◌++◌, length, take, drop, map, IsUtf8, refl, sym, ap, ◌∙◌, arith, subst, append_assoc, Bool}
use Rattle.std.proofs.lemmas.Bool.Decides.{nat_tests}
use Rattle.std.proofs.lemmas.List.{length-append, length-drop, take_at}
use Rattle.gql_base.specs.declared.lexical.token.TokenKind.TheVariants.{Name, Int, Float, Str, BlockStr, Bang, Dollar, Amp, OpenParen, CloseParen, Spread, Colon, Equals, At, OpenBracket, CloseBracket, OpenBrace, Pipe, CloseBrace}
use Rattle.gql_base.specs.lexical.Pieces.{Lexeme, word, number, float, string as text_lexeme, block, mark, Piece, token, byte_order_mark, blank, comment, lexeme_bytes, piece_bytes, IsLexeme, Divides, token_at, tokens_from}
use Rattle.gql_base.specs.lexical.Tokens.{bytes_at}
use Rattle.gql_base.specs.lexical.Literals.{integer_value, integer_of, inner_span, marked_value, string_of}
use Rattle.gql_base.specs.ways.Symbols.{Symbol, punctuator, identifier, integer, decimal, string, Symbols, symbol_of, symbols_from}
use Rattle.gql_base.proofs.WayLaws.Places.{HasAsciiEnds, bytes_of_token, range_when, nat_le_more, part_start, part_end}
use Rattle.gql_base.proofs.LexicalLaws.Runs.{rest_after}

-- the symbol of a lexeme whose first byte is at this place
unfoldable pub symbol_at : ℕ → Lexeme → Symbol
symbol_at at (word bytes) = identifier bytes at
symbol_at at (number bytes) = integer (integer_value bytes)
symbol_at at (float bytes) = decimal bytes
symbol_at at (text_lexeme body) = string (marked_value Str body)
symbol_at at (block body) = string (marked_value BlockStr body)
symbol_at at (mark kind) = punctuator kind

-- the symbol that a piece is, or none
unfoldable pub symbol_in : ℕ → Piece → Symbols
symbol_in at (token lexeme) = symbol_at at lexeme ∷ []
symbol_in at byte_order_mark = []
symbol_in at (blank byte) = []
symbol_in at (comment bytes) = []

unfoldable pub symbols_in : ℕ → List Piece → Symbols
symbols_in at [] = []
symbols_in at (p ∷ ps) = symbol_in at p ++ symbols_in (at + length (piece_bytes p)) ps

-- ---- what stands between marks

body_bytes : (text marks body after : List ℕ) (at : ℕ) → IsUtf8 text → at ≤ length text → drop at text ≡ marks ++ (body ++ (marks ++ after)) → 0 < length marks → HasAsciiEnds marks → bytes_at text (record { start = at + length marks; end = at + length marks + length body }) ≡ body
body_bytes text marks body after at utf8 within cut some ascii =
    let from_body : drop (at + length marks) text ≡ body ++ (marks ++ after) = rest_after text marks (body ++ (marks ++ after)) at cut in
    let from_end : drop (at + length marks + length body) text ≡ marks ++ after = rest_after text body (marks ++ after) (at + length marks) from_body in
    let inside : at + length marks + length body ≤ length text = omega (arith, ap length from_end, length-append marks after, length-drop (at + length marks + length body) text, some) in
    range_when _ _ _ _ (nat_le_more (at + length marks) (length body)) (part_end text marks (body ++ (marks ++ after)) at within cut some ascii utf8) (part_start text marks after (at + length marks + length body) inside from_end some ascii)
    ∙ ap (take (at + length marks + length body - (at + length marks))) from_body ∙ take_at body (marks ++ after) (at + length marks + length body - (at + length marks)) (omega arith)

inner_is : (n at size long : ℕ) → long ≡ n + size + n → inner_span n (record { start = at; end = at + long }) ≡ record { start = at + n; end = at + n + size }
inner_is n at size long e =
    let end : at + long - n ≡ at + n + size = omega (arith, e) in
    rw (enough (at + long - at) (omega (arith, e))) (ap (λ x. record { start = at + n; end = x }) end)
  where
    enough : (m : ℕ) → n + n ≤ m → nat_le (n + n) m ≡ true
    enough m le = grind (arith, nat_tests)

pub string_body : (text after body : List ℕ) (at : ℕ) → IsUtf8 text → at ≤ length text → drop at text ≡ lexeme_bytes (text_lexeme body) ++ after → bytes_at text (inner_span 1 (token_at at (text_lexeme body)).span) ≡ body
string_body text after body at utf8 within cut =
    ap (bytes_at text) (inner_is 1 at (length body) (length (lexeme_bytes (text_lexeme body))) (omega (arith, length-append body (34 ∷ []))))
    ∙ body_bytes text (34 ∷ []) body after at utf8 within (cut ∙ ap (λ xs. 34 ∷ xs) (append_assoc body (34 ∷ []) after)) (omega arith) (omega arith, omega arith)

pub block_body : (text after body : List ℕ) (at : ℕ) → IsUtf8 text → at ≤ length text → drop at text ≡ lexeme_bytes (block body) ++ after → bytes_at text (inner_span 3 (token_at at (block body)).span) ≡ body
block_body text after body at utf8 within cut =
    ap (bytes_at text) (inner_is 3 at (length body) (length (lexeme_bytes (block body))) (omega (arith, length-append body (34 ∷ 34 ∷ 34 ∷ []))))
    ∙ body_bytes text (34 ∷ 34 ∷ 34 ∷ []) body after at utf8 within (cut ∙ ap (λ xs. 34 ∷ 34 ∷ 34 ∷ xs) (append_assoc body (34 ∷ 34 ∷ 34 ∷ []) after)) (omega arith) (omega arith, omega arith)

-- ---- tokens

token_symbol : (floats : Bool) (text after : List ℕ) (at : ℕ) (l : Lexeme) → IsUtf8 text → at ≤ length text → drop at text ≡ lexeme_bytes l ++ after → IsLexeme floats l → symbol_of text (token_at at l) ≡ symbol_at at l
unfolding symbol_at integer_of string_of
token_symbol floats text after at (word bytes) utf8 within cut is = ap (λ xs. identifier xs at) (bytes_of_token floats text after at (word bytes) utf8 within cut is)
token_symbol floats text after at (number bytes) utf8 within cut is = ap (λ xs. integer (integer_value xs)) (bytes_of_token floats text after at (number bytes) utf8 within cut is)
token_symbol floats text after at (float bytes) utf8 within cut is = ap decimal (bytes_of_token floats text after at (float bytes) utf8 within cut is)
token_symbol floats text after at (text_lexeme body) utf8 within cut is = ap (λ xs. string (marked_value Str xs)) (string_body text after body at utf8 within cut)
token_symbol floats text after at (block body) utf8 within cut is = ap (λ xs. string (marked_value BlockStr xs)) (block_body text after body at utf8 within cut)
token_symbol floats text after at (mark Bang) utf8 within cut is = refl
token_symbol floats text after at (mark Dollar) utf8 within cut is = refl
token_symbol floats text after at (mark Amp) utf8 within cut is = refl
token_symbol floats text after at (mark OpenParen) utf8 within cut is = refl
token_symbol floats text after at (mark CloseParen) utf8 within cut is = refl
token_symbol floats text after at (mark Spread) utf8 within cut is = refl
token_symbol floats text after at (mark Colon) utf8 within cut is = refl
token_symbol floats text after at (mark Equals) utf8 within cut is = refl
token_symbol floats text after at (mark At) utf8 within cut is = refl
token_symbol floats text after at (mark OpenBracket) utf8 within cut is = refl
token_symbol floats text after at (mark CloseBracket) utf8 within cut is = refl
token_symbol floats text after at (mark OpenBrace) utf8 within cut is = refl
token_symbol floats text after at (mark Pipe) utf8 within cut is = refl
token_symbol floats text after at (mark CloseBrace) utf8 within cut is = refl
token_symbol floats text after at (mark Name) utf8 within cut is = absurd (omega (arith, is))
token_symbol floats text after at (mark Int) utf8 within cut is = absurd (omega (arith, is))
token_symbol floats text after at (mark Float) utf8 within cut is = absurd (omega (arith, is))
token_symbol floats text after at (mark Str) utf8 within cut is = absurd (omega (arith, is))
token_symbol floats text after at (mark BlockStr) utf8 within cut is = absurd (omega (arith, is))

-- what holds from the place after some bytes on
symbols_after : (floats : Bool) (ps : List Piece) (text after xs : List ℕ) (at : ℕ) → (at + length xs ≤ length text → Divides floats ps (drop (at + length xs) text) [] → map (symbol_of text) (tokens_from (at + length xs) ps) ≡ symbols_in (at + length xs) ps) → at ≤ length text → drop at text ≡ xs ++ after → Divides floats ps after [] → map (symbol_of text) (tokens_from (at + length xs) ps) ≡ symbols_in (at + length xs) ps
symbols_after floats ps text after xs at next within cut d =
    next (omega (arith, ap length cut, length-append xs after, length-drop at text)) (subst (λ t. Divides floats ps t []) (sym (rest_after text xs after at cut)) d)

symbols_in_pieces : (floats : Bool) (ps : List Piece) (text : List ℕ) (at : ℕ) → IsUtf8 text → at ≤ length text → Divides floats ps (drop at text) [] → map (symbol_of text) (tokens_from at ps) ≡ symbols_in at ps
unfolding Divides tokens_from symbols_in symbol_in
symbols_in_pieces floats [] text at utf8 within d = refl
symbols_in_pieces floats (token l ∷ ps) text at utf8 within d =
    let here : symbol_of text (token_at at l) ≡ symbol_at at l = token_symbol floats text d.0 at l utf8 within d.1 d.2 in
    let others : map (symbol_of text) (tokens_from (at + length (lexeme_bytes l)) ps) ≡ symbols_in (at + length (lexeme_bytes l)) ps = symbols_after floats ps text d.0 (lexeme_bytes l) at (symbols_in_pieces floats ps text (at + length (lexeme_bytes l)) utf8) within d.1 d.4 in
    cc (here, others)
symbols_in_pieces floats (byte_order_mark ∷ ps) text at utf8 within d = symbols_after floats ps text d.0 (239 ∷ 187 ∷ 191 ∷ []) at (symbols_in_pieces floats ps text (at + 3) utf8) within d.1 d.4
symbols_in_pieces floats (blank byte ∷ ps) text at utf8 within d = symbols_after floats ps text d.0 (byte ∷ []) at (symbols_in_pieces floats ps text (at + 1) utf8) within d.1 d.4
symbols_in_pieces floats (comment bytes ∷ ps) text at utf8 within d = symbols_after floats ps text d.0 (35 ∷ bytes) at (symbols_in_pieces floats ps text (at + suc (length bytes)) utf8) within d.1 d.4

pub symbols_are : (floats : Bool) (ps : List Piece) (text : List ℕ) → IsUtf8 text → Divides floats ps text [] → symbols_from text (tokens_from 0 ps) 0 ≡ symbols_in 0 ps
unfolding symbols_from
symbols_are floats ps text utf8 d = symbols_in_pieces floats ps text 0 utf8 (omega arith) d
