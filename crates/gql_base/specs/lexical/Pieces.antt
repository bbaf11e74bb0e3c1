-- How a text is divided into tokens and what is ignored between them (GraphQL October 2021, 2.1).
use Rattle.std.specs.Prelude.{◌≡◌, ℕ, ◌+◌, ◌^◌, ◌<◌, ◌≤◌, Bool, true, false, List, [], ◌∷◌, ◌++◌, length, IsTrue, codes}
use Rattle.std.specs.List.{AllPass}
use Rattle.std.specs.Str.Parse.{digits_value}
use Rattle.gql_base.specs.declared.lexical.token.Token.{Token}
use Rattle.gql_base.specs.declared.lexical.token.TokenKind.{TokenKind}
use Rattle.gql_base.specs.declared.lexical.token.TokenKind.TheVariants.{Name, Int, Float, Str, BlockStr, Bang, Dollar, Amp, OpenParen, CloseParen, Spread, Colon, Equals, At, OpenBracket, CloseBracket, OpenBrace, Pipe, CloseBrace}
use Rattle.gql_base.specs.lexical.Characters.{is_name_start, is_name_continue, is_blank, is_comment_byte, follows_no_number}
use Rattle.gql_base.specs.lexical.Numbers.{IsWhole, minus_bytes, IsFloat}
use Rattle.gql_base.specs.lexical.Strings.{begins_with_mark, StringCharacter, IsBody}
use Rattle.gql_base.specs.lexical.BlockStrings.{BlockCharacter, IsBlockBody}

-- A token without its place: a name, an integer or a float with its bytes, a string or a block string with what stands
-- between its marks, or a punctuator, which its kind tells.
pub data Lexeme : Type 0 where
  word : (bytes : List ℕ) → Lexeme
  number : (bytes : List ℕ) → Lexeme
  float : (bytes : List ℕ) → Lexeme
  string : (body : List ℕ) → Lexeme
  block : (body : List ℕ) → Lexeme
  mark : (kind : TokenKind) → Lexeme

-- What a text is made of: tokens, and what is ignored, which is a byte order mark, a blank, or a comment
-- with the bytes after its `#`.
pub data Piece : Type 0 where
  token : (lexeme : Lexeme) → Piece
  byte_order_mark : Piece
  blank : (byte : ℕ) → Piece
  comment : (bytes : List ℕ) → Piece

-- the bytes of a punctuator; a kind without bytes is none
abbrev pub mark_bytes : TokenKind → List ℕ
mark_bytes Name = []
mark_bytes Int = []
mark_bytes Float = []
mark_bytes Str = []
mark_bytes BlockStr = []
mark_bytes Bang = codes "!"
mark_bytes Dollar = codes "$"
mark_bytes Amp = codes "&"
mark_bytes OpenParen = codes "("
mark_bytes CloseParen = codes ")"
mark_bytes Spread = codes "..."
mark_bytes Colon = codes ":"
mark_bytes Equals = codes "="
mark_bytes At = codes "@"
mark_bytes OpenBracket = codes "["
mark_bytes CloseBracket = codes "]"
mark_bytes OpenBrace = codes "{"
mark_bytes Pipe = codes "|"
mark_bytes CloseBrace = codes "}"

abbrev pub lexeme_bytes : Lexeme → List ℕ
lexeme_bytes (word bytes) = bytes
lexeme_bytes (number bytes) = bytes
lexeme_bytes (float bytes) = bytes
lexeme_bytes (string body) = 34 ∷ (body ++ 34 ∷ [])
lexeme_bytes (block body) = 34 ∷ 34 ∷ 34 ∷ (body ++ 34 ∷ 34 ∷ 34 ∷ [])
lexeme_bytes (mark kind) = mark_bytes kind

abbrev pub kind_of : Lexeme → TokenKind
kind_of (word bytes) = Name
kind_of (number bytes) = Int
kind_of (float bytes) = Float
kind_of (string body) = Str
kind_of (block body) = BlockStr
kind_of (mark kind) = kind

abbrev pub piece_bytes : Piece → List ℕ
piece_bytes (token lexeme) = lexeme_bytes lexeme
piece_bytes byte_order_mark = 239 ∷ 187 ∷ 191 ∷ []
piece_bytes (blank byte) = byte ∷ []
piece_bytes (comment bytes) = 35 ∷ bytes

-- a name start, and then name characters
abbrev pub IsName : List ℕ → Type 0
IsName [] = ⊥
IsName (c ∷ cs) = IsTrue (is_name_start c) × AllPass is_name_continue cs

-- how far integers reach below and above 0: those of 128 bits
abbrev pub IsInRange : Bool → ℕ → Type 0
IsInRange true n = n ≤ 2 ^ 127
IsInRange false n = n < 2 ^ 127

-- a minus or none, and the digits of a whole number, in the range of integers
pub record IsInteger (bytes : List ℕ) : Type 0 where
  pub minus : Bool
  pub whole : List ℕ
  pub cut : bytes ≡ minus_bytes minus ++ whole
  pub is : IsWhole whole
  pub small : IsInRange minus (digits_value 10 whole)

-- a lexeme of a text in which floats may stand, or may not
abbrev pub IsLexeme : Bool → Lexeme → Type 0
IsLexeme floats (word bytes) = IsName bytes
IsLexeme floats (number bytes) = IsInteger bytes
IsLexeme floats (float bytes) = IsTrue floats × IsFloat bytes
IsLexeme floats (string body) = (characters : List StringCharacter) × IsBody characters body
IsLexeme floats (block body) = (characters : List BlockCharacter) × IsBlockBody characters body
IsLexeme floats (mark kind) = 0 < length (mark_bytes kind)

abbrev pub IsPiece : Bool → Piece → Type 0
IsPiece floats (token lexeme) = IsLexeme floats lexeme
IsPiece floats byte_order_mark = Unit {0}
IsPiece floats (blank byte) = IsTrue (is_blank byte)
IsPiece floats (comment bytes) = AllPass is_comment_byte bytes

-- what follows doesn't begin with a byte that passes the test
abbrev pub BeginsWithout : (ℕ → Bool) → List ℕ → Type 0
BeginsWithout test [] = Unit {0}
BeginsWithout test (c ∷ cs) = test c ≡ false

-- The piece ends where it must, with this after it: a name isn't followed by a name character, an integer or a float by a
-- digit, a dot or a name, or a comment by what it may hold. An empty string isn't followed by a mark, which would make
-- it the beginning of a block string.
abbrev pub EndsBefore : Piece → List ℕ → Type 0
EndsBefore (token (word bytes)) after = BeginsWithout is_name_continue after
EndsBefore (token (number bytes)) after = BeginsWithout follows_no_number after
EndsBefore (token (float bytes)) after = BeginsWithout follows_no_number after
EndsBefore (token (string body)) after = body ≡ [] → begins_with_mark after ≡ false
EndsBefore (token (block body)) after = Unit {0}
EndsBefore (token (mark kind)) after = Unit {0}
EndsBefore byte_order_mark after = Unit {0}
EndsBefore (blank byte) after = Unit {0}
EndsBefore (comment bytes) after = BeginsWithout is_comment_byte after

-- The text is these pieces, one after the other and each as long as possible, and then the rest.
unfoldable pub Divides : Bool → List Piece → List ℕ → List ℕ → Type 0
Divides floats [] text rest = text ≡ rest
Divides floats (p ∷ ps) text rest = (after : List ℕ) × (text ≡ piece_bytes p ++ after) × IsPiece floats p × EndsBefore p after × Divides floats ps after rest

-- no token and no ignored piece begins the text
abbrev pub BeginsNothing : Bool → List ℕ → Type 0
BeginsNothing floats text = (p : Piece) (after : List ℕ) → text ≡ piece_bytes p ++ after → IsPiece floats p → EndsBefore p after → ⊥

-- the token of a lexeme whose first byte is at this place
abbrev pub token_at : ℕ → Lexeme → Token
token_at at lexeme = record { kind = kind_of lexeme; span = record { start = at; end = at + length (lexeme_bytes lexeme) } }

-- the token that a piece at this place is, or none
abbrev pub token_of : ℕ → Piece → List Token
token_of at (token lexeme) = token_at at lexeme ∷ []
token_of at byte_order_mark = []
token_of at (blank byte) = []
token_of at (comment bytes) = []

-- the tokens among pieces, the first of which begins at this place
unfoldable pub tokens_from : ℕ → List Piece → List Token
tokens_from at [] = []
tokens_from at (p ∷ ps) = token_of at p ++ tokens_from (at + length (piece_bytes p)) ps

-- the lexeme that a piece is, or none
abbrev pub lexeme_in : Piece → List Lexeme
lexeme_in (token lexeme) = lexeme ∷ []
lexeme_in byte_order_mark = []
lexeme_in (blank byte) = []
lexeme_in (comment bytes) = []

-- the tokens among pieces, without their places
unfoldable pub lexemes_of : List Piece → List Lexeme
lexemes_of [] = []
lexemes_of (p ∷ ps) = lexeme_in p ++ lexemes_of ps
