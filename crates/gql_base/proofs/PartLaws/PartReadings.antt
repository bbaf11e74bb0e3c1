-- What the laws of values and types say of the calls that read one of them.
use Rattle.std.proofs.Common.{ℕ, arith, ◌≡◌, Bool, true, false, List, [], ◌∷◌, ◌++◌, Some, Ok, inl, inr, refl, sym, ap, ◌∙◌}
use Rattle.std.specs.Prelude.{◌==◌}
use Rattle.std.proofs.lemmas.Bool.{cases_Bool}
use Rattle.gql_base.specs.declared.ways.source.Source.{Source}
use Rattle.gql_base.specs.declared.ways.source.Halt.{Halt}
use Rattle.gql_base.specs.declared.parts.readers.ValueFault.{ValueFault}
use Rattle.gql_base.specs.declared.parts.readers.ValueFault.TheVariants as fault
use Rattle.gql_base.specs.declared.lexical.token.TokenKind.TheVariants.{Bang}
use Rattle.gql_base.specs.ways.Symbols.{Symbol, Symbols, punctuator, kind_of, kind_number}
use Rattle.gql_base.specs.ways.Reading.{Reading, next, takes, exact, when, is_some}
use Rattle.gql_base.specs.ways.Grammar.{Nested, plain, Within}
use Rattle.gql_base.specs.ways.Sources.{ahead, Halts}
use Rattle.gql_base.specs.ways.Halting.{fault_of_halt}
use Rattle.gql_base.specs.parts.Answers.{told_of_value, EndsBefore}
use Rattle.gql_base.specs.parts.TypeReferences.{TypeTree, named_type, list_type, non_null_type, IsNullable, IsType, type_at}
use Rattle.gql_base.proofs.WayLaws.ReadingLaws.{ok_same, within_append, regroup}
use Rattle.gql_base.proofs.WayLaws.LevelLaws.{is_read}
use Rattle.gql_base.proofs.WayLaws.SymbolTests.{exact_is}
use Rattle.gql_base.proofs.PartLaws.TypeLaws.{type_family, non_null_read}
use Rattle.gql_base.proofs.WayLaws.Readings.{halts_for_memory}
use Rattle.gql_base.proofs.PartLaws.OneFault.{memory_told}

pub gives_ok : {A V : Type 0} (view : V → A) (s : Source) (o : Reading A) (x : V × ℕ) (a : A) (rest : Symbols) → o ≡ Ok (view x.0, ahead s x.1) → o ≡ Ok (a, rest) → (view x.0 ≡ a) × (ahead s x.1 ≡ rest)
gives_ok view s o x a rest e is = let g = ok_same (view x.0, ahead s x.1) (a, rest) (sym e ∙ is) in (ap (λ y. y.0) g, ap (λ y. y.1) g)

pub gives_err : {A : Type 0} (s : Source) (halt : Halt) (f : ValueFault) (o : Reading A) (x : A × Symbols) → Halts s halt o → told_of_value f ≡ fault_of_halt s halt → o ≡ Ok x → f ≡ fault.Memory
gives_err s halt f o x e is ok = memory_told f (is ∙ ap (fault_of_halt s) (halts_for_memory s halt o x e ok))

-- types with what follows them

some_when : (b : Bool) → b ≡ true → when b ≡ Some tt
some_when b e = ap when e

other_kind : (w : Symbol) → (w ≡ punctuator Bang → ⊥) → takes (exact Bang) (Some w) ≡ false
other_kind w not_bang = elim (cases_Bool (kind_number Bang == kind_number (kind_of w))) [
  | inl t ↦ absurd (not_bang (exact_is Bang w tt tt (ap when t)))
  | inr t ↦ ap (λ b. is_some (when b)) t
]

ends : (rest : Symbols) (t : TypeTree) → EndsBefore (list_type t) rest → takes (exact Bang) (next rest) ≡ false
ends [] t e = refl
ends (w ∷ rest) t e = other_kind w e

named_ends : (rest : Symbols) (n : List ℕ) (at : ℕ) → EndsBefore (named_type n at) rest → takes (exact Bang) (next rest) ≡ false
named_ends [] n at e = refl
named_ends (w ∷ rest) n at e = other_kind w e

pub type_is_read : (n : ℕ) (t : TypeTree) (front : Nested) (ws rest : Symbols) → IsType 0 t front → Within n front → EndsBefore t rest → ws ≡ plain front ++ rest → type_at n ws ≡ Ok (t, rest)
type_is_read n (named_type m at) front ws rest is within end cut = is_read n type_family (named_type m at) front ws rest is within cut (named_ends rest m at end)
type_is_read n (list_type t) front ws rest is within end cut = is_read n type_family (list_type t) front ws rest is within cut (ends rest t end)
type_is_read n (non_null_type t) front ws rest is within end cut = ap (type_at n) cut ∙ non_null_read n t front rest is within

-- a type that is written is read, with the `!` that may follow it

with_its_bang : (t : TypeTree) (front : Nested) → IsNullable t → IsType 0 t front → IsType 0 (non_null_type t) (front ++ ((punctuator Bang, 0) ∷ []))
unfolding IsType
with_its_bang t front nullable is = (nullable, front, refl, is)

nullable_is_read : (n : ℕ) (t : TypeTree) (front : Nested) (ws rest : Symbols) → IsNullable t → IsType 0 t front → Within n front → ws ≡ plain front ++ rest → (x : TypeTree × Symbols) × (type_at n ws ≡ Ok x)
nullable_is_read n t front ws [] nullable is within cut = ((t, []), is_read n type_family t front ws [] is within cut refl)
nullable_is_read n t front ws (w ∷ rest) nullable is within cut = elim (cases_Bool (kind_number Bang == kind_number (kind_of w))) [
  | inl same ↦
      let last : Nested = (punctuator Bang, 0) ∷ [] in
      let bang : w ≡ punctuator Bang = exact_is Bang w tt tt (ap when same) in (
        (non_null_type t, rest),
        type_is_read n (non_null_type t) (front ++ last) ws rest (with_its_bang t front nullable is) (within_append n front last within (omega arith, tt)) tt
            (cut ∙ (ap (λ (v : Symbol). plain front ++ (v ∷ rest)) bang ∙ sym (regroup front last rest))),
      )
  | inr other ↦ ((t, w ∷ rest), is_read n type_family t front ws (w ∷ rest) is within cut (ap (λ b. is_some (when b)) other))
]

pub written_type_is_read : (n : ℕ) (t : TypeTree) (front : Nested) (ws rest : Symbols) → IsType 0 t front → Within n front → ws ≡ plain front ++ rest → (x : TypeTree × Symbols) × (type_at n ws ≡ Ok x)
written_type_is_read n (named_type m at) front ws rest is within cut = nullable_is_read n (named_type m at) front ws rest tt is within cut
written_type_is_read n (list_type t) front ws rest is within cut = nullable_is_read n (list_type t) front ws rest tt is within cut
written_type_is_read n (non_null_type t) front ws rest is within cut = ((non_null_type t, rest), type_is_read n (non_null_type t) front ws rest is within tt cut)
