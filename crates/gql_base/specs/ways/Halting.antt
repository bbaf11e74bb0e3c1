-- Why a call halted, by the grammar of what it reads, and the fault that it tells.
use Rattle.std.specs.Prelude.{ℕ}
use Rattle.gql_base.specs.declared.lexical.lexing.LexFault.{LexFault}
use Rattle.gql_base.specs.declared.lexical.lexing.LexFault.TheVariants as lexical
use Rattle.gql_base.specs.declared.ways.source.Source.{Source}
use Rattle.gql_base.specs.declared.ways.source.Halt.{Halt}
use Rattle.gql_base.specs.declared.ways.source.Halt.TheVariants.{Unexpected, TooDeep, Memory}
use Rattle.gql_base.specs.ways.Grammar.{Nested}
use Rattle.gql_base.specs.ways.FirstFaults.{IsUnexpected, IsTooDeep}
use Rattle.gql_base.specs.ways.Sources.{ahead, offset_of}
use Rattle.gql_base.specs.ways.TextFaults.{TextFault, lexical_fault, unexpected_at, too_deep_at, no_memory}

-- The token at which a call halted is the first with which nothing goes on, or the first that opens a level too many.
abbrev pub HaltsAtFault : {A : Type 0} → (A → Nested → Type 0) → ℕ → Source → ℕ → Halt → Type 0
HaltsAtFault S n source from (Unexpected place) = IsUnexpected S n (ahead source from) (ahead source place)
HaltsAtFault S n source from (TooDeep place) = IsTooDeep S n (ahead source from) (ahead source place)
HaltsAtFault S n source from Memory = Unit {0}

-- the fault of a call that halted, with the offset of the token
abbrev pub fault_of_halt : Source → Halt → TextFault
fault_of_halt source (Unexpected place) = unexpected_at (offset_of source.text.now source.tokens.now place)
fault_of_halt source (TooDeep place) = too_deep_at (offset_of source.text.now source.tokens.now place)
fault_of_halt source Memory = no_memory

-- the fault of a text without tokens
abbrev pub fault_of_lexing : LexFault → TextFault
fault_of_lexing lexical.Memory = no_memory
fault_of_lexing fault = lexical_fault fault
