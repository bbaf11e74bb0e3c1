-- The tokens of a text, or its first fault.
use Rattle.std.specs.Prelude.{◌≡◌, ◌⊎◌, ℕ, ◌+◌, ◌-◌, ◌<◌, ◌≤◌, Bool, nat_le, nat_lt, ◌==◌, ◌&&◌, ◌||◌, List, [], ◌∷◌, length, take, drop, map, slice_index, slice_range, if◌then◌else◌, Result, Ok, Err, Vec}
use Rattle.std.specs.declared.alloc.Global.{Global}
use Rattle.gql_base.specs.declared.lexical.token.Span.{Span}
use Rattle.gql_base.specs.declared.lexical.token.Token.{Token}
use Rattle.gql_base.specs.declared.lexical.token.TokenKind.{TokenKind}
use Rattle.gql_base.specs.declared.lexical.token.TokenKind.TheVariants.{Name, Int, Float, Str, BlockStr}
use Rattle.gql_base.specs.declared.lexical.lexing.LexFault.{LexFault}
use Rattle.gql_base.specs.declared.lexical.lexing.LexFault.TheVariants.{Memory}
use Rattle.gql_base.specs.lexical.Pieces.{Lexeme, word, number, float, string, block, mark, Piece, Divides, tokens_from, lexemes_of}
use Rattle.gql_base.specs.lexical.Faults.{HasFault}

-- The text, in which floats may stand or may not, lexes as these tokens: it is pieces, each as long as possible, of which these
-- are the tokens.
pub record Lexes (floats : Bool) (text : List ℕ) (tokens : List Token) : Type 0 where
  pub pieces : List Piece
  pub divided : Divides floats pieces text []
  pub told : tokens ≡ tokens_from 0 pieces

-- The same without places: the text is pieces, each as long as possible, of which these are the tokens.
pub record HasLexemes (floats : Bool) (text : List ℕ) (lexemes : List Lexeme) : Type 0 where
  pub pieces : List Piece
  pub divided : Divides floats pieces text []
  pub told : lexemes ≡ lexemes_of pieces

-- whether a character of a UTF-8 text begins at this place, or the text ends there
abbrev pub is_border : List ℕ → ℕ → Bool
is_border text at = (at == length text) || (nat_lt at (length text) && (nat_lt (slice_index text at) 128 || nat_le 192 (slice_index text at)))

-- the bytes from a span's start up to before its end; none where these aren't borders of characters
abbrev pub bytes_at : List ℕ → Span → List ℕ
bytes_at text span = if nat_le span.start span.end && is_border text span.start && is_border text span.end then slice_range text span.start span.end else []

-- the bytes but for so many at each end
abbrev pub inner : ℕ → List ℕ → List ℕ
inner n bytes = take (length bytes - (n + n)) (drop n bytes)

abbrev pub lexeme_with : TokenKind → List ℕ → Lexeme
lexeme_with Name bytes = word bytes
lexeme_with Int bytes = number bytes
lexeme_with Float bytes = float bytes
lexeme_with Str bytes = string (inner 1 bytes)
lexeme_with BlockStr bytes = block (inner 3 bytes)
lexeme_with kind bytes = mark kind

-- a token of a text without its place: its kind, and the bytes of a name or a number, or between marks
abbrev pub lexeme_of : List ℕ → Token → Lexeme
lexeme_of text token = lexeme_with token.kind (bytes_at text token.span)

-- Tokens in order, from one place up to another: none is empty, and none begins before the one before it ends.
unfoldable pub AreInOrder : ℕ → ℕ → List Token → Type 0
AreInOrder from to [] = from ≤ to
AreInOrder from to (t ∷ ts) = (from ≤ t.span.start) × (t.span.start < t.span.end) × AreInOrder t.span.end to ts

-- why a text has no tokens
abbrev pub IsFaultOf : Bool → List ℕ → LexFault → Type 0
IsFaultOf floats text fault = HasFault floats text fault ⊎ (fault ≡ Memory)

-- The answer is these tokens, unless memory ran out.
abbrev pub Gives : List Token → Result (Vec Token Global) LexFault → Type 0
Gives tokens (Ok found) = found.items ≡ tokens
Gives tokens (Err fault) = fault ≡ Memory

-- The answer is tokens that are these lexemes, unless memory ran out.
abbrev pub GivesLexemes : List ℕ → List Lexeme → Result (Vec Token Global) LexFault → Type 0
GivesLexemes text lexemes (Ok found) = map (lexeme_of text) found.items ≡ lexemes
GivesLexemes text lexemes (Err fault) = fault ≡ Memory

-- The answer is this fault, unless memory ran out.
abbrev pub Refuses : LexFault → Result (Vec Token Global) LexFault → Type 0
Refuses fault (Ok found) = ⊥
Refuses fault (Err other) = (other ≡ fault) ⊎ (other ≡ Memory)
