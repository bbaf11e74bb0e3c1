-- Whether a text is a thing that a grammar has, and else its first fault: for each grammar of whole texts.
use Rattle.std.specs.Prelude.{ℕ, ◌≡◌, Bool, List, [], Result, Ok, Err}
use Rattle.gql_base.specs.declared.lexical.token.Token.{Token}
use Rattle.gql_base.specs.declared.lexical.lexing.LexFault.{LexFault}
use Rattle.gql_base.specs.declared.lexical.lexing.LexFault.TheVariants.{Memory}
use Rattle.gql_base.specs.lexical.Tokens.{Lexes, IsFaultOf}
use Rattle.gql_base.specs.ways.Symbols.{symbols_from}
use Rattle.gql_base.specs.ways.Grammar.{Nested}
use Rattle.gql_base.specs.ways.FirstFaults.{level_limit, IsUnexpected, IsTooDeep, IsWritten}
use Rattle.gql_base.specs.ways.Sources.{offset_of}

-- Why a text is nothing that a grammar has: it has no tokens; or at this offset begins the first token with which
-- nothing goes on, or that opens a level above the limit; or memory ran out. The faults of programs are seen as these.
pub data TextFault : Type 0 where
  lexical_fault : (fault : LexFault) → TextFault
  unexpected_at : (offset : ℕ) → TextFault
  too_deep_at : (offset : ℕ) → TextFault
  no_memory : TextFault

-- The text, in which floats may stand or may not, is this thing: its tokens are those of the thing and no others, nested no deeper
-- than the limit.
abbrev pub HasTree : {A : Type 0} → Bool → (A → Nested → Type 0) → List ℕ → A → Type 0
HasTree floats S text a = (tokens : List Token) × Lexes floats text tokens × IsWritten S level_limit (symbols_from text tokens 0) a []

-- why nothing is read from a token on, with the offset of the first fault
abbrev pub IsFaultFrom : {A : Type 0} → (A → Nested → Type 0) → List ℕ → List Token → ℕ → TextFault → Type 0
IsFaultFrom S text tokens from (lexical_fault fault) = ⊥
IsFaultFrom S text tokens from (unexpected_at offset) = (place : ℕ) × (offset ≡ offset_of text tokens place) × IsUnexpected S level_limit (symbols_from text tokens from) (symbols_from text tokens place)
IsFaultFrom S text tokens from (too_deep_at offset) = (place : ℕ) × (offset ≡ offset_of text tokens place) × IsTooDeep S level_limit (symbols_from text tokens from) (symbols_from text tokens place)
IsFaultFrom S text tokens from no_memory = Unit {0}

-- The fault of a text without tokens is that of its tokens; want of memory is no such fault.
abbrev pub IsLexical : Bool → List ℕ → LexFault → Type 0
IsLexical floats text fault = IsFaultOf floats text fault × (fault ≡ Memory → ⊥)

-- why a text is nothing that the grammar has
abbrev pub IsTextFault : {A : Type 0} → Bool → (A → Nested → Type 0) → List ℕ → TextFault → Type 0
IsTextFault floats S text (lexical_fault fault) = IsLexical floats text fault
IsTextFault floats S text (unexpected_at offset) = (tokens : List Token) × Lexes floats text tokens × IsFaultFrom S text tokens 0 (unexpected_at offset)
IsTextFault floats S text (too_deep_at offset) = (tokens : List Token) × Lexes floats text tokens × IsFaultFrom S text tokens 0 (too_deep_at offset)
IsTextFault floats S text no_memory = Unit {0}

-- The text has this fault; want of memory is none of its own.
abbrev pub HasTextFault : {A : Type 0} → Bool → (A → Nested → Type 0) → List ℕ → TextFault → Type 0
HasTextFault floats S text fault = IsTextFault floats S text fault × (fault ≡ no_memory → ⊥)

-- The answer is this thing, if memory didn't run out.
abbrev pub GivesTree : {A V F : Type 0} → (V → A) → (F → TextFault) → A → Result V F → Type 0
GivesTree view told a (Ok found) = view found ≡ a
GivesTree view told a (Err fault) = told fault ≡ no_memory
