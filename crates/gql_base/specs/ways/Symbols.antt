-- The symbols in which the grammars of GraphQL are written: tokens (GraphQL October 2021, 2.1) as far as trees
-- need them. A name keeps its offset, since trees say where a name stands. A string and a block string are alike.
use Rattle.std.specs.Prelude.{ℕ, ℤ, List, map, drop}
use Rattle.gql_base.specs.declared.lexical.token.Token.{Token}
use Rattle.gql_base.specs.declared.lexical.token.TokenKind.{TokenKind}
use Rattle.gql_base.specs.declared.lexical.token.TokenKind.TheVariants.{Name, Int, Float, Str, BlockStr, Bang, Dollar, Amp, OpenParen, CloseParen, Spread, Colon, Equals, At, OpenBracket, CloseBracket, OpenBrace, Pipe, CloseBrace}
use Rattle.gql_base.specs.lexical.Tokens.{bytes_at}
use Rattle.gql_base.specs.lexical.Literals.{integer_of, string_of}

pub data Symbol : Type 0 where
  punctuator : (kind : TokenKind) → Symbol
  identifier : (bytes : List ℕ) (at : ℕ) → Symbol
  integer : (value : ℤ) → Symbol
  -- a float, by its bytes
  decimal : (bytes : List ℕ) → Symbol
  string : (value : List ℕ) → Symbol

abbrev pub Symbols : Type 0
Symbols = List Symbol

abbrev pub symbol_with : TokenKind → List ℕ → Token → Symbol
symbol_with Name text token = identifier (bytes_at text token.span) token.span.start
symbol_with Int text token = integer (integer_of text token)
symbol_with Float text token = decimal (bytes_at text token.span)
symbol_with Str text token = string (string_of text token)
symbol_with BlockStr text token = string (string_of text token)
symbol_with kind text token = punctuator kind

-- the symbol that a token of a text is
abbrev pub symbol_of : List ℕ → Token → Symbol
symbol_of text token = symbol_with token.kind text token

-- the symbols that the tokens of a text are, from a token on
unfoldable pub symbols_from : List ℕ → List Token → ℕ → Symbols
symbols_from text tokens at = map (symbol_of text) (drop at tokens)

-- the kind of a symbol
abbrev pub kind_of : Symbol → TokenKind
kind_of (punctuator kind) = kind
kind_of (identifier bytes at) = Name
kind_of (integer value) = Int
kind_of (decimal bytes) = Float
kind_of (string value) = Str

-- kinds by numbers; both kinds of strings have one
abbrev pub kind_number : TokenKind → ℕ
kind_number Name = 0
kind_number Int = 1
kind_number Float = 2
kind_number Str = 3
kind_number BlockStr = 3
kind_number Bang = 5
kind_number Dollar = 6
kind_number Amp = 7
kind_number OpenParen = 8
kind_number CloseParen = 9
kind_number Spread = 10
kind_number Colon = 11
kind_number Equals = 12
kind_number At = 13
kind_number OpenBracket = 14
kind_number CloseBracket = 15
kind_number OpenBrace = 16
kind_number Pipe = 17
kind_number CloseBrace = 18
