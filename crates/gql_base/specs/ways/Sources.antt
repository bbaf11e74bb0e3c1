-- The symbols of the tokens that are read, and what a call on them answers.
use Rattle.std.specs.Prelude.{ℕ, ◌≡◌, ◌+◌, List, [], ◌∷◌, length, drop, Option, None, Some, Result, Ok, Err}
use Rattle.gql_base.specs.declared.lexical.token.Token.{Token}
use Rattle.gql_base.specs.declared.ways.source.Source.{Source}
use Rattle.gql_base.specs.declared.ways.source.Halt.{Halt}
use Rattle.gql_base.specs.declared.ways.source.Halt.TheVariants.{Unexpected, TooDeep, Memory}
use Rattle.gql_base.specs.ways.Symbols.{Symbols, symbol_of, symbols_from}
use Rattle.gql_base.specs.ways.Reading.{unexpected, too_deep, Reading}

-- the symbols of a source, from a token on
abbrev pub ahead : Source → ℕ → Symbols
ahead source at = symbols_from source.text.now source.tokens.now at

-- the same, by the token there
abbrev pub ahead_with : Source → ℕ → Option Token → Symbols
ahead_with source at None = []
ahead_with source at (Some token) = symbol_of source.text.now token ∷ ahead source (at + 1)

-- A call halted where reading stops, or for want of memory.
abbrev pub Halts : {A : Type 0} → Source → Halt → Reading A → Type 0
Halts source (Unexpected at) reading = reading ≡ Err (unexpected, ahead source at)
Halts source (TooDeep at) reading = reading ≡ Err (too_deep, ahead source at)
Halts source Memory reading = Unit {0}

-- What a call answers, seen by a view that gives a thing and the number of the token after it, is what reading
-- gives, if memory didn't run out.
abbrev pub Reads : {A B : Type 0} → Source → (A → B × ℕ) → Result A Halt → Reading B → Type 0
Reads source view (Ok x) reading = reading ≡ Ok ((view x).0, ahead source (view x).1)
Reads source view (Err halt) reading = Halts source halt reading

-- the offset of the first of the tokens, or the end
abbrev pub first_offset : ℕ → List Token → ℕ
first_offset end [] = end
first_offset end (token ∷ others) = token.span.start

-- the offset of a token of a text, or the text's length where no token is left
abbrev pub offset_of : List ℕ → List Token → ℕ → ℕ
offset_of text tokens place = first_offset (length text) (drop place tokens)
