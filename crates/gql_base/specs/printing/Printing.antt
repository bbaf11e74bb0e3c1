-- The one form in which symbols are printed: one space between two of them, but none after `$` and `@`.
use Rattle.std.specs.Prelude.{ℕ, ◌/◌, ◌%◌, ◌==◌, not, ◌||◌, Bool, false, List, [], ◌∷◌, ◌++◌, if◌then◌else◌}
use Rattle.std.specs.List.{flat_map}
use Rattle.std.specs.Char.{digit_char, encode_utf8, is_ascii_control, to_ascii_uppercase}
use Rattle.std.specs.Str.{chars}
use Rattle.std.specs.Fmt.{signed_decimal}
use Rattle.gql_base.specs.declared.lexical.token.TokenKind.{TokenKind}
use Rattle.gql_base.specs.lexical.Pieces.{mark_bytes}
use Rattle.gql_base.specs.ways.Symbols.{Symbol, punctuator, identifier, integer, decimal, string, Symbols, kind_number}

abbrev pub upper_digit : ℕ → ℕ
upper_digit digit = to_ascii_uppercase (digit_char digit)

-- the escape of a control character by its number: `\u00`, and two digits of base 16, in upper case
abbrev pub escape_number : ℕ → List ℕ
escape_number c = 92 ∷ 117 ∷ 48 ∷ 48 ∷ upper_digit (c / 16) ∷ upper_digit (c % 16) ∷ []

-- a control character by its number, and any other as it is
abbrev pub numbered : ℕ → List ℕ
numbered c = if is_ascii_control c then escape_number c else encode_utf8 c

-- A character in a string, with its escape if it has one here: a letter for `"`, `\`, a line feed, a carriage return, a tab, a
-- backspace and a form feed, and a number for every other control character: but for U+007F no string holds one as it stands
-- (GraphQL October 2021, 2.1.1 and 2.9.4).
abbrev pub escaped : ℕ → List ℕ
escaped c =
    if c == 34 then 92 ∷ 34 ∷ []
    else if c == 92 then 92 ∷ 92 ∷ []
    else if c == 10 then 92 ∷ 110 ∷ []
    else if c == 13 then 92 ∷ 114 ∷ []
    else if c == 9 then 92 ∷ 116 ∷ []
    else if c == 8 then 92 ∷ 98 ∷ []
    else if c == 12 then 92 ∷ 102 ∷ []
    else numbered c

-- the characters of a string, escaped
abbrev pub all_escaped : List ℕ → List ℕ
all_escaped text = flat_map escaped (chars text)

-- the text of a symbol
abbrev pub symbol_text : Symbol → List ℕ
symbol_text (punctuator kind) = mark_bytes kind
symbol_text (identifier bytes at) = bytes
symbol_text (integer value) = signed_decimal value
symbol_text (decimal bytes) = bytes
symbol_text (string value) = (34 ∷ []) ++ (all_escaped value ++ (34 ∷ []))

-- no space stands after these kinds
abbrev pub is_tight : TokenKind → Bool
is_tight kind = (kind_number kind == 6) || (kind_number kind == 13)

abbrev pub symbol_is_tight : Symbol → Bool
symbol_is_tight (punctuator kind) = is_tight kind
symbol_is_tight (identifier bytes at) = false
symbol_is_tight (integer value) = false
symbol_is_tight (decimal bytes) = false
symbol_is_tight (string value) = false

-- what was printed, and whether a space stands before what comes next
abbrev pub Printed : Type 0
Printed = List ℕ × Bool

abbrev pub with_space : Printed → List ℕ
with_space p = if p.1 then p.0 ++ (32 ∷ []) else p.0

abbrev pub put_text : Printed → List ℕ → Bool → Printed
put_text p text tight = (with_space p ++ text, not tight)

-- one more symbol
abbrev pub put : Printed → Symbol → Printed
put p w = put_text p (symbol_text w) (symbol_is_tight w)

-- more symbols
unfoldable pub put_all : Printed → Symbols → Printed
put_all p [] = p
put_all p (w ∷ ws) = put_all (put p w) ws

-- the printed form of symbols
abbrev pub printed : Symbols → List ℕ
printed ws = (put_all ([], false) ws).0
