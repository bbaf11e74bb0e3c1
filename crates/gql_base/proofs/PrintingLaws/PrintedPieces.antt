-- What is printed of symbols is divided into their texts and the spaces between them.
use Rattle.std.proofs.Common.{◌≡◌, ℕ, ◌+◌, ◌<◌, not, Bool, true, false, List, [], ◌∷◌, ◌++◌, length, map, All, IsUtf8, refl, sym, ap, ◌∙◌, arith, subst, append_assoc, append-nil}
use Rattle.std.specs.Fmt.{signed_decimal}
use Rattle.std.proofs.lemmas.List.Elements.{All-head, All-tail}
use Rattle.std.proofs.lemmas.Str.{IsUtf8-nil, IsUtf8-append, IsUtf8-from_ascii}
use Rattle.gql_base.specs.declared.lexical.token.Token.{Token}
use Rattle.gql_base.specs.declared.lexical.token.TokenKind.{TokenKind}
use Rattle.gql_base.specs.declared.lexical.token.TokenKind.TheVariants.{Name, Int, Float, Str, BlockStr, Bang, Dollar, Amp, OpenParen, CloseParen, Spread, Colon, Equals, At, OpenBracket, CloseBracket, OpenBrace, Pipe, CloseBrace}
use Rattle.gql_base.specs.lexical.Pieces.{Lexeme, word, number, float, string as text_lexeme, mark, mark_bytes, Piece, token, blank, lexeme_bytes, IsLexeme, EndsBefore, Divides, tokens_from}
use Rattle.gql_base.specs.lexical.Tokens.{Lexes}
use Rattle.gql_base.specs.ways.Symbols.{Symbol, punctuator, identifier, integer, decimal, string, Symbols, symbols_from}
use Rattle.gql_base.specs.printing.Printing.{all_escaped, symbol_text, symbol_is_tight, Printed, with_space, put, put_all, printed}
use Rattle.gql_base.specs.printing.PlacelessSymbols.{placeless_symbol}
use Rattle.gql_base.specs.printing.PrintableSymbols.{IsTextual}
use Rattle.gql_base.proofs.LexicalLaws.ScannedStrings.{body_scanned, ends_apart}
use Rattle.gql_base.proofs.LexicalLaws.EscapedTexts.{utf8_ascii, escaped_sound, escaped_closed, escaped_single, escaped_value, escaped_utf8}
use Rattle.gql_base.proofs.LexicalLaws.DecimalTexts.{printed_integer, printed_integer_value, printed_integer_utf8}
use Rattle.gql_base.proofs.WayLaws.Places.{name_is_ascii, float_ends}
use Rattle.gql_base.proofs.PrintingLaws.TokenSymbols.{symbol_at, symbol_in, symbols_in, symbols_are}

-- ---- from the front

space_text : Bool → List ℕ
space_text true = 32 ∷ []
space_text false = []

-- the symbols from the front on, where a space stands before the first or not
text_after : Bool → Symbols → List ℕ
text_after space [] = []
text_after space (w ∷ ws) = space_text space ++ (symbol_text w ++ text_after (not (symbol_is_tight w)) ws)

spaced : (p : Printed) (b : Bool) → p.1 ≡ b → with_space p ≡ p.0 ++ space_text b
unfolding space_text
spaced p true is = rw is refl
spaced p false is = rw is (sym (append-nil p.0))

all_put : (p : Printed) (ws : Symbols) → (put_all p ws).0 ≡ p.0 ++ text_after p.1 ws
unfolding put_all text_after
all_put p [] = sym (append-nil p.0)
all_put p (w ∷ ws) =
    let rest : List ℕ = text_after (not (symbol_is_tight w)) ws in
    all_put (put p w) ws
    ∙ ap (λ xs. (xs ++ symbol_text w) ++ rest) (spaced p p.1 refl)
    ∙ append_assoc (p.0 ++ space_text p.1) (symbol_text w) rest
    ∙ append_assoc p.0 (space_text p.1) (symbol_text w ++ rest)

printed_is : (ws : Symbols) → printed ws ≡ text_after false ws
printed_is ws = all_put ([], false) ws

-- ---- lexemes

lexeme_for : Symbol → Lexeme
lexeme_for (punctuator kind) = mark kind
lexeme_for (identifier bytes at) = word bytes
lexeme_for (integer value) = number (signed_decimal value)
lexeme_for (decimal bytes) = float bytes
lexeme_for (string value) = text_lexeme (all_escaped value)

lexeme_text : (w : Symbol) → symbol_text w ≡ lexeme_bytes (lexeme_for w)
unfolding lexeme_for
lexeme_text (punctuator kind) = refl
lexeme_text (identifier bytes at) = refl
lexeme_text (integer value) = refl
lexeme_text (decimal bytes) = refl
lexeme_text (string value) = refl

is_lexeme : (floats : Bool) (w : Symbol) → IsTextual floats w → IsLexeme floats (lexeme_for w)
unfolding lexeme_for
is_lexeme floats (punctuator kind) is = is
is_lexeme floats (identifier bytes at) is = is
is_lexeme floats (integer value) is = printed_integer value is
is_lexeme floats (decimal bytes) is = is
is_lexeme floats (string value) is = body_scanned (all_escaped value) [] (escaped_sound value is) (escaped_closed value [] is)

-- what comes after a symbol that isn't tight
ends_at_space : (floats : Bool) (w : Symbol) (ws : Symbols) → IsTextual floats w → EndsBefore (token (lexeme_for w)) (text_after true ws)
unfolding lexeme_for text_after space_text
ends_at_space floats (punctuator kind) ws is = tt
ends_at_space floats (identifier bytes at) [] is = tt
ends_at_space floats (identifier bytes at) (v ∷ ws) is = refl
ends_at_space floats (integer value) [] is = tt
ends_at_space floats (decimal bytes) [] is = tt
ends_at_space floats (integer value) (v ∷ ws) is = refl
ends_at_space floats (decimal bytes) (v ∷ ws) is = refl
ends_at_space floats (string value) [] is = ends_apart (all_escaped value) [] (escaped_single value [] is refl)
ends_at_space floats (string value) (v ∷ ws) is = ends_apart (all_escaped value) (text_after true (v ∷ ws)) (escaped_single value (text_after true (v ∷ ws)) is refl)

ends_before : (floats : Bool) (w : Symbol) (ws : Symbols) → IsTextual floats w → EndsBefore (token (lexeme_for w)) (text_after (not (symbol_is_tight w)) ws)
unfolding lexeme_for
ends_before floats (punctuator kind) ws is = tt
ends_before floats (identifier bytes at) ws is = ends_at_space floats (identifier bytes at) ws is
ends_before floats (integer value) ws is = ends_at_space floats (integer value) ws is
ends_before floats (decimal bytes) ws is = ends_at_space floats (decimal bytes) ws is
ends_before floats (string value) ws is = ends_at_space floats (string value) ws is

-- ---- pieces

pieces_after : Bool → Symbols → List Piece
pieces_after space [] = []
pieces_after true (w ∷ ws) = blank 32 ∷ token (lexeme_for w) ∷ pieces_after (not (symbol_is_tight w)) ws
pieces_after false (w ∷ ws) = token (lexeme_for w) ∷ pieces_after (not (symbol_is_tight w)) ws

divided_front : (floats : Bool) (w : Symbol) (ws : Symbols) → IsTextual floats w → Divides floats (pieces_after (not (symbol_is_tight w)) ws) (text_after (not (symbol_is_tight w)) ws) [] → Divides floats (token (lexeme_for w) ∷ pieces_after (not (symbol_is_tight w)) ws) (symbol_text w ++ text_after (not (symbol_is_tight w)) ws) []
unfolding Divides
divided_front floats w ws is others = (text_after (not (symbol_is_tight w)) ws, ap (λ xs. xs ++ text_after (not (symbol_is_tight w)) ws) (lexeme_text w), is_lexeme floats w is, ends_before floats w ws is, others)

divided_after : (floats : Bool) (space : Bool) (ws : Symbols) → All (IsTextual floats) ws → Divides floats (pieces_after space ws) (text_after space ws) []
unfolding Divides pieces_after text_after space_text
divided_after floats space [] all = refl
divided_after floats true (w ∷ ws) all =
    (symbol_text w ++ text_after (not (symbol_is_tight w)) ws, refl, refl, tt, divided_front floats w ws (All-head (IsTextual floats) w ws all) (divided_after floats (not (symbol_is_tight w)) ws (All-tail (IsTextual floats) w ws all)))
divided_after floats false (w ∷ ws) all = divided_front floats w ws (All-head (IsTextual floats) w ws all) (divided_after floats (not (symbol_is_tight w)) ws (All-tail (IsTextual floats) w ws all))

-- ---- symbols

same_symbol : (floats : Bool) (w : Symbol) (at : ℕ) → IsTextual floats w → placeless_symbol (symbol_at at (lexeme_for w)) ≡ placeless_symbol w
unfolding lexeme_for symbol_at
same_symbol floats (punctuator kind) at is = refl
same_symbol floats (identifier bytes place) at is = refl
same_symbol floats (integer value) at is = ap integer (printed_integer_value value is)
same_symbol floats (decimal bytes) at is = refl
same_symbol floats (string value) at is = ap string (escaped_value value is)

same_front : (floats : Bool) (w : Symbol) (ws : Symbols) (at : ℕ) (ps : List Piece) → IsTextual floats w → map placeless_symbol (symbols_in (at + length (lexeme_bytes (lexeme_for w))) ps) ≡ map placeless_symbol ws → map placeless_symbol (symbols_in at (token (lexeme_for w) ∷ ps)) ≡ map placeless_symbol (w ∷ ws)
unfolding symbols_in symbol_in
same_front floats w ws at ps is others = let here = same_symbol floats w at is in cc (here, others)

same_symbols : (floats : Bool) (space : Bool) (ws : Symbols) (at : ℕ) → All (IsTextual floats) ws → map placeless_symbol (symbols_in at (pieces_after space ws)) ≡ map placeless_symbol ws
unfolding symbols_in symbol_in pieces_after
same_symbols floats space [] at all = refl
same_symbols floats true (w ∷ ws) at all =
    same_front floats w ws (at + 1) (pieces_after (not (symbol_is_tight w)) ws) (All-head (IsTextual floats) w ws all) (same_symbols floats (not (symbol_is_tight w)) ws (at + 1 + length (lexeme_bytes (lexeme_for w))) (All-tail (IsTextual floats) w ws all))
same_symbols floats false (w ∷ ws) at all =
    same_front floats w ws at (pieces_after (not (symbol_is_tight w)) ws) (All-head (IsTextual floats) w ws all) (same_symbols floats (not (symbol_is_tight w)) ws (at + length (lexeme_bytes (lexeme_for w))) (All-tail (IsTextual floats) w ws all))

-- ---- in UTF-8

one_utf8 : (c : ℕ) → c < 128 → IsUtf8 (c ∷ [])
one_utf8 c low = utf8_ascii c [] low IsUtf8-nil

mark_utf8 : (kind : TokenKind) → IsUtf8 (mark_bytes kind)
mark_utf8 Bang = one_utf8 33 (omega arith)
mark_utf8 Dollar = one_utf8 36 (omega arith)
mark_utf8 Amp = one_utf8 38 (omega arith)
mark_utf8 OpenParen = one_utf8 40 (omega arith)
mark_utf8 CloseParen = one_utf8 41 (omega arith)
mark_utf8 Spread = utf8_ascii 46 (46 ∷ 46 ∷ []) (omega arith) (utf8_ascii 46 (46 ∷ []) (omega arith) (utf8_ascii 46 [] (omega arith) IsUtf8-nil))
mark_utf8 Colon = one_utf8 58 (omega arith)
mark_utf8 Equals = one_utf8 61 (omega arith)
mark_utf8 At = one_utf8 64 (omega arith)
mark_utf8 OpenBracket = one_utf8 91 (omega arith)
mark_utf8 CloseBracket = one_utf8 93 (omega arith)
mark_utf8 OpenBrace = one_utf8 123 (omega arith)
mark_utf8 Pipe = one_utf8 124 (omega arith)
mark_utf8 CloseBrace = one_utf8 125 (omega arith)
mark_utf8 Name = IsUtf8-nil
mark_utf8 Int = IsUtf8-nil
mark_utf8 Float = IsUtf8-nil
mark_utf8 Str = IsUtf8-nil
mark_utf8 BlockStr = IsUtf8-nil

symbol_utf8 : (floats : Bool) (w : Symbol) → IsTextual floats w → IsUtf8 (symbol_text w)
symbol_utf8 floats (punctuator kind) is = mark_utf8 kind
symbol_utf8 floats (identifier bytes at) is = IsUtf8-from_ascii bytes (λ k. name_is_ascii bytes k is)
symbol_utf8 floats (integer value) is = printed_integer_utf8 value is
symbol_utf8 floats (decimal bytes) is = IsUtf8-from_ascii bytes (λ k. float_ends bytes k is.1)
symbol_utf8 floats (string value) is = utf8_ascii 34 (all_escaped value ++ (34 ∷ [])) (omega arith) (IsUtf8-append (all_escaped value) (34 ∷ []) (escaped_utf8 value is) (one_utf8 34 (omega arith)))

space_utf8 : (space : Bool) → IsUtf8 (space_text space)
unfolding space_text
space_utf8 true = one_utf8 32 (omega arith)
space_utf8 false = IsUtf8-nil

text_utf8 : (floats : Bool) (space : Bool) (ws : Symbols) → All (IsTextual floats) ws → IsUtf8 (text_after space ws)
unfolding text_after
text_utf8 floats space [] all = IsUtf8-nil
text_utf8 floats space (w ∷ ws) all =
    IsUtf8-append (space_text space) (symbol_text w ++ text_after (not (symbol_is_tight w)) ws) (space_utf8 space)
    (IsUtf8-append (symbol_text w) (text_after (not (symbol_is_tight w)) ws) (symbol_utf8 floats w (All-head (IsTextual floats) w ws all)) (text_utf8 floats (not (symbol_is_tight w)) ws (All-tail (IsTextual floats) w ws all)))

pub printed_utf8 : (floats : Bool) (ws : Symbols) → All (IsTextual floats) ws → IsUtf8 (printed ws)
printed_utf8 floats ws all = subst IsUtf8 (sym (printed_is ws)) (text_utf8 floats false ws all)

-- ---- printed symbols

pub printed_lexes : (floats : Bool) (ws : Symbols) → All (IsTextual floats) ws → (tokens : List Token) × Lexes floats (printed ws) tokens × (map placeless_symbol (symbols_from (printed ws) tokens 0) ≡ map placeless_symbol ws)
printed_lexes floats ws all =
    let ps : List Piece = pieces_after false ws in
    let d : Divides floats ps (printed ws) [] = subst (λ t. Divides floats ps t []) (sym (printed_is ws)) (divided_after floats false ws all) in
    let utf8 : IsUtf8 (printed ws) = printed_utf8 floats ws all in
    (tokens_from 0 ps, record { pieces = ps; divided = d; told = refl }, ap (map placeless_symbol) (symbols_are floats ps (printed ws) utf8 d) ∙ same_symbols floats false ws 0 all)
