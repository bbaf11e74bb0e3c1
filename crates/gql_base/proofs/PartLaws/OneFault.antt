-- From a token on, the reading of a value or a type has one fault at most.
use Rattle.std.proofs.Common.{ℕ, ◌≡◌, ◌⊎◌, inl, inr, List, refl, sym, ap, ◌∙◌}
use Rattle.gql_base.specs.declared.lexical.token.Token.{Token}
use Rattle.gql_base.specs.declared.parts.readers.ValueFault.{ValueFault}
use Rattle.gql_base.specs.declared.parts.readers.ValueFault.TheVariants.{Unexpected, TooDeep, Memory}
use Rattle.gql_base.specs.ways.Grammar.{Nested}
use Rattle.gql_base.specs.ways.TextFaults.{TextFault, lexical_fault, unexpected_at, too_deep_at, no_memory}
use Rattle.gql_base.specs.ways.Symbols.{Symbols, symbols_from}
use Rattle.gql_base.specs.ways.FirstFaults.{level_limit, IsWritten}
use Rattle.gql_base.specs.parts.Answers.{told_of_value, IsFault}
use Rattle.gql_base.proofs.WayLaws.DeterminedNestings.{Determined}
use Rattle.gql_base.proofs.WayLaws.FaultPlaces.{one_fault_from}

-- the fault that tells this
abbrev value_fault : TextFault → ValueFault
value_fault (lexical_fault fault) = Memory
value_fault (unexpected_at offset) = Unexpected offset
value_fault (too_deep_at offset) = TooDeep offset
value_fault no_memory = Memory

told_back : (fault : ValueFault) → value_fault (told_of_value fault) ≡ fault
told_back (Unexpected at) = refl
told_back (TooDeep at) = refl
told_back Memory = refl

pub memory_told : (fault : ValueFault) → told_of_value fault ≡ no_memory → fault ≡ Memory
memory_told fault e = sym (told_back fault) ∙ ap value_fault e

pub one_fault : {A : Type 0} {S : A → Nested → Type 0} → Determined S → (text : List ℕ) (tokens : List Token) (from : ℕ) (fault other : ValueFault) → IsFault S text tokens from fault → IsFault S text tokens from other → (fault ≡ Memory → ⊥) → (other ≡ Memory → ⊥) → fault ≡ other
one_fault s text tokens from fault other is it a b =
    sym (told_back fault) ∙ (ap value_fault (one_fault_from s text tokens from (told_of_value fault) (told_of_value other) is.0 it.0 (λ e. a (memory_told fault e)) (λ e. b (memory_told other e))) ∙ told_back other)

-- where a thing is written, memory ran out

memory_or_not : (fault : ValueFault) → (fault ≡ Memory) ⊎ (fault ≡ Memory → ⊥)
memory_or_not (Unexpected at) = inr (λ e. cc)
memory_or_not (TooDeep at) = inr (λ e. cc)
memory_or_not Memory = inl refl

pub fault_of_memory : {A : Type 0} (S : A → Nested → Type 0) (text : List ℕ) (tokens : List Token) (from : ℕ) (a : A) (rest : Symbols) (fault : ValueFault) → IsWritten S level_limit (symbols_from text tokens from) a rest → IsFault S text tokens from fault → fault ≡ Memory
fault_of_memory S text tokens from a rest fault is bad = elim (memory_or_not fault) [
  | inl e ↦ e
  | inr not_memory ↦ absurd (bad.1 not_memory a rest is)
]
