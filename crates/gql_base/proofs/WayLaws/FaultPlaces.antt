-- The first fault from a token on stands at a token or at the end, and tells the same offset, however it is found.
use Rattle.std.proofs.Common.{ℕ, ◌+◌, ◌≡◌, inl, inr, List, [], ◌∷◌, ◌++◌, length, map, refl, sym, ap, ◌∙◌, subst, arith}
use Rattle.std.specs.Prelude.{drop}
use Rattle.std.proofs.lemmas.Bool.{cases_lt}
use Rattle.std.proofs.lemmas.List.{length-drop, length-map, drop-drop}
use Rattle.gql_base.specs.declared.lexical.token.Token.{Token}
use Rattle.gql_base.specs.ways.Symbols.{Symbols, symbol_of, symbols_from}
use Rattle.gql_base.specs.ways.Grammar.{Nested, plain}
use Rattle.gql_base.specs.ways.FirstFaults.{level_limit, IsUnexpected, IsTooDeep}
use Rattle.gql_base.specs.ways.TextFaults.{TextFault, lexical_fault, unexpected_at, too_deep_at, no_memory, IsFaultFrom}
use Rattle.gql_base.specs.ways.Sources.{offset_of, first_offset}
use Rattle.gql_base.proofs.WayLaws.AlikeSymbols.{first_same}
use Rattle.gql_base.proofs.WayLaws.DeterminedNestings.{Determined}
use Rattle.gql_base.proofs.WayLaws.FirstPlace.{one_unexpected, unexpected_or_too_deep, one_too_deep}

none_of_length : (ts : List Token) → length ts ≡ 0 → ts ≡ []
none_of_length [] e = refl
none_of_length (t ∷ ts) e = absurd (omega (arith, e))

same_drop : (ts : List Token) (p q : ℕ) → length (drop p ts) ≡ length (drop q ts) → drop p ts ≡ drop q ts
same_drop ts p q e = elim (cases_lt p (length ts)) [
  | inl h ↦ let is : p ≡ q = omega (arith, e, h, length-drop p ts, length-drop q ts) in ap (λ (k : ℕ). drop k ts) is
  | inr h ↦ none_of_length (drop p ts) (omega (arith, h, length-drop p ts)) ∙ sym (none_of_length (drop q ts) (omega (arith, e, h, length-drop p ts)))
]

-- where the same symbols are left, the same offset comes next
pub same_offset : (text : List ℕ) (tokens : List Token) (p q : ℕ) → symbols_from text tokens p ≡ symbols_from text tokens q → offset_of text tokens p ≡ offset_of text tokens q
unfolding symbols_from
same_offset text tokens p q e = ap (first_offset (length text)) (same_drop tokens p q (sym (length-map (drop p tokens) (symbol_of text)) ∙ (ap length e ∙ length-map (drop q tokens) (symbol_of text))))

-- the symbols after some of those from a token on are those from another token on

after_some : (text : List ℕ) (ts : List Token) (xs rest : Symbols) → map (symbol_of text) ts ≡ xs ++ rest → map (symbol_of text) (drop (length xs) ts) ≡ rest
after_some text ts [] rest e = e
after_some text [] (x ∷ xs) rest e = cc
after_some text (t ∷ ts) (x ∷ xs) rest e = after_some text ts xs rest (first_same (symbol_of text t) x (map (symbol_of text) ts) (xs ++ rest) e).1

rest_from : (text : List ℕ) (tokens : List Token) (from : ℕ) (xs rest : Symbols) → symbols_from text tokens from ≡ xs ++ rest → symbols_from text tokens (from + length xs) ≡ rest
unfolding symbols_from
rest_from text tokens from xs rest e = ap (map (symbol_of text)) (sym (drop-drop (length xs) from tokens)) ∙ after_some text (drop from tokens) xs rest e

-- Where reading from a token on stops, there is a token or the end.

pub unexpected_place : {A : Type 0} {S : A → Nested → Type 0} (n : ℕ) (text : List ℕ) (tokens : List Token) (from : ℕ) (rest : Symbols) → IsUnexpected S n (symbols_from text tokens from) rest → (place : ℕ) × IsUnexpected S n (symbols_from text tokens from) (symbols_from text tokens place)
unexpected_place {S = S} n text tokens from rest u = (from + length (plain u.front), subst (IsUnexpected S n (symbols_from text tokens from)) (sym (rest_from text tokens from (plain u.front) rest u.cut)) u)

pub too_deep_place : {A : Type 0} {S : A → Nested → Type 0} (n : ℕ) (text : List ℕ) (tokens : List Token) (from : ℕ) (rest : Symbols) → IsTooDeep S n (symbols_from text tokens from) rest → (place : ℕ) × IsTooDeep S n (symbols_from text tokens from) (symbols_from text tokens place)
too_deep_place {S = S} n text tokens from rest t = (from + length (plain t.front), subst (IsTooDeep S n (symbols_from text tokens from)) (sym (rest_from text tokens from (plain t.front) rest t.cut)) t)

-- one fault

pub one_fault_from : {A : Type 0} {S : A → Nested → Type 0} → Determined S → (text : List ℕ) (tokens : List Token) (from : ℕ) (fault other : TextFault) → IsFaultFrom S text tokens from fault → IsFaultFrom S text tokens from other → (fault ≡ no_memory → ⊥) → (other ≡ no_memory → ⊥) → fault ≡ other
one_fault_from s text tokens from (lexical_fault fault) other is it a b = absurd is
one_fault_from s text tokens from no_memory other is it a b = absurd (a refl)
one_fault_from s text tokens from (unexpected_at at) (lexical_fault fault) is it a b = absurd it
one_fault_from s text tokens from (unexpected_at at) (unexpected_at place) is it a b = ap unexpected_at (is.1 ∙ (same_offset text tokens is.0 it.0 (one_unexpected level_limit _ _ _ is.2 it.2) ∙ sym it.1))
one_fault_from s text tokens from (unexpected_at at) (too_deep_at place) is it a b = absurd (unexpected_or_too_deep s level_limit _ _ _ is.2 it.2)
one_fault_from s text tokens from (unexpected_at at) no_memory is it a b = absurd (b refl)
one_fault_from s text tokens from (too_deep_at at) (lexical_fault fault) is it a b = absurd it
one_fault_from s text tokens from (too_deep_at at) (unexpected_at place) is it a b = absurd (unexpected_or_too_deep s level_limit _ _ _ it.2 is.2)
one_fault_from s text tokens from (too_deep_at at) (too_deep_at place) is it a b = ap too_deep_at (is.1 ∙ (same_offset text tokens is.0 it.0 (one_too_deep s level_limit _ _ _ is.2 it.2) ∙ sym it.1))
one_fault_from s text tokens from (too_deep_at at) no_memory is it a b = absurd (b refl)
