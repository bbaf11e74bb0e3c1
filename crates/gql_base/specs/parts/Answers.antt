-- What the readers of values and types answer.
use Rattle.std.specs.Prelude.{ℕ, ◌≡◌, List, [], ◌∷◌, Result, Ok, Err}
use Rattle.gql_base.specs.declared.lexical.token.Token.{Token}
use Rattle.gql_base.specs.declared.lexical.token.TokenKind.TheVariants.{Bang}
use Rattle.gql_base.specs.declared.parts.readers.ValueFault.{ValueFault}
use Rattle.gql_base.specs.declared.parts.readers.ValueFault.TheVariants.{Unexpected, TooDeep, Memory}
use Rattle.gql_base.specs.ways.Symbols.{Symbols, punctuator, symbols_from}
use Rattle.gql_base.specs.ways.Grammar.{Nested}
use Rattle.gql_base.specs.ways.FirstFaults.{level_limit, IsWritten}
use Rattle.gql_base.specs.ways.TextFaults.{TextFault, unexpected_at, too_deep_at, no_memory, IsFaultFrom}
use Rattle.gql_base.specs.parts.TypeReferences.{TypeTree, non_null_type}

-- The answer is this thing, and this is left, if memory didn't run out.
abbrev pub Gives : {A V : Type 0} → (V → A) → List ℕ → List Token → A → Symbols → Result (V × ℕ) ValueFault → Type 0
Gives view text tokens a rest (Ok x) = (view x.0 ≡ a) × (symbols_from text tokens x.1 ≡ rest)
Gives view text tokens a rest (Err fault) = fault ≡ Memory

-- what the fault tells
abbrev pub told_of_value : ValueFault → TextFault
told_of_value (Unexpected at) = unexpected_at at
told_of_value (TooDeep at) = too_deep_at at
told_of_value Memory = no_memory

-- From a token on no thing is written, whatever comes after it.
abbrev pub NoneIsRead : {A : Type 0} → (A → Nested → Type 0) → List ℕ → List Token → ℕ → Type 0
NoneIsRead S text tokens from = (a : _) (rest : Symbols) → IsWritten S level_limit (symbols_from text tokens from) a rest → ⊥

-- Why nothing is read from a token on, with the offset of the first fault. Memory may run out where a thing is written.
abbrev pub IsFault : {A : Type 0} → (A → Nested → Type 0) → List ℕ → List Token → ℕ → ValueFault → Type 0
IsFault S text tokens from fault = IsFaultFrom S text tokens from (told_of_value fault) × ((fault ≡ Memory → ⊥) → NoneIsRead S text tokens from)

-- From a token on, the reading of such a thing has one fault at most. Want of memory is no such fault.
abbrev pub HasOneFault : {A : Type 0} → (A → Nested → Type 0) → Type 0
HasOneFault S = (text : List ℕ) (tokens : List Token) (from : ℕ) (fault other : ValueFault) → IsFault S text tokens from fault → IsFault S text tokens from other → (fault ≡ Memory → ⊥) → (other ≡ Memory → ⊥) → fault ≡ other

-- Where such a thing is read from a token on, its reading has no fault. Want of memory is no such fault.
abbrev pub HasNoFaultWhereRead : {A : Type 0} → (A → Nested → Type 0) → Type 0
HasNoFaultWhereRead S = (text : List ℕ) (tokens : List Token) (from : ℕ) (a : _) (rest : Symbols) (fault : ValueFault) → IsWritten S level_limit (symbols_from text tokens from) a rest → IsFault S text tokens from fault → fault ≡ Memory

-- no `!` follows a type to which it would belong
abbrev pub EndsBefore : TypeTree → Symbols → Type 0
EndsBefore (non_null_type t) rest = Unit {0}
EndsBefore t [] = Unit {0}
EndsBefore t (w ∷ rest) = w ≡ punctuator Bang → ⊥
