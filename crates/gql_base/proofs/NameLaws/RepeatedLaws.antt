-- The first name that stands before it.
use Rattle.std.proofs.Common.{ℕ, suc, ◌≡◌, ◌<◌, ◌≤◌, ◌-◌, ◌+◌, arith, true, false, List, [], ◌∷◌, length, take, Option, None, Some, inl, inr, refl, sym, ap, ◌∙◌}
use Rattle.std.specs.Prelude.{is_some, if◌then◌else◌}
use Rattle.std.specs.List.{list_any}
use Rattle.std.specs.Map.{update}
use Rattle.std.specs.Str.{bytes_eq}
use Rattle.std.specs.Cmp.Lexicographic.{nat_list_eq_equiv}
use Rattle.std.proofs.lemmas.Bool.{cases_Bool}
use Rattle.std.proofs.lemmas.Option.{same_Some}
use Rattle.gql_base.specs.names.Names.{are_distinct, repeated_from, first_repeated}

-- whether something stands just at the names that were seen
abbrev pub Knows : (List ℕ → Option ℕ) → List (List ℕ) → Type 0
Knows places seen = (name : List ℕ) → is_some (places name) ≡ list_any (bytes_eq name) seen

-- from a place on, what is left answers as the whole
pub record GoesOn (places : List ℕ → Option ℕ) (at : ℕ) (rest : List (List ℕ)) (whole : Option ℕ) : Type 0 where
  pub seen : List (List ℕ)
  pub knows : Knows places seen
  pub same : repeated_from seen at rest ≡ whole

-- with one more, what was seen has it in front
pub sees : (old new : List ℕ → Option ℕ) (key : List ℕ) (at : ℕ) (seen : List (List ℕ)) → ((name : List ℕ) → new name ≡ update bytes_eq old key (Some at) name) → Knows old seen → Knows new (key ∷ seen)
sees old new key at seen put knows = λ name. ap is_some (put name) ∙ elim (cases_Bool (bytes_eq key name)) [
  | inl t ↦ let s = nat_list_eq_equiv.symm name key ∙ t in rw (t, s) refl
  | inr t ↦ let s = nat_list_eq_equiv.symm name key ∙ t in rw (t, s) (knows name)
]

pub is_repeated : (seen : List (List ℕ)) (at : ℕ) (name : List ℕ) (rest : List (List ℕ)) (whole : Option ℕ) → list_any (bytes_eq name) seen ≡ true → repeated_from seen at (name ∷ rest) ≡ whole → Some at ≡ whole
is_repeated seen at name rest whole t e = sym (ap (λ b. if b then Some at else repeated_from (name ∷ seen) (at + 1) rest) t) ∙ e

pub is_new : (seen : List (List ℕ)) (at : ℕ) (name : List ℕ) (rest : List (List ℕ)) (whole : Option ℕ) → list_any (bytes_eq name) seen ≡ false → repeated_from seen at (name ∷ rest) ≡ whole → repeated_from (name ∷ seen) (at + 1) rest ≡ whole
is_new seen at name rest whole t e = sym (ap (λ b. if b then Some at else repeated_from (name ∷ seen) (at + 1) rest) t) ∙ e

-- no name is among those seen, and names are distinct, exactly where none is repeated

abbrev AreNew : List (List ℕ) → List (List ℕ) → Type 0
AreNew seen [] = Unit {0}
AreNew seen (name ∷ names) = (list_any (bytes_eq name) seen ≡ false) × AreNew seen names

newer : (name : List ℕ) (seen names : List (List ℕ)) → AreNew (name ∷ seen) names → AreNew seen names × (list_any (bytes_eq name) names ≡ false)
newer name seen [] new = (tt, refl)
newer name seen (other ∷ names) new = elim (cases_Bool (bytes_eq other name)) [
  | inl t ↦ absurd (let bad = rw t at (new.0) in cc)
  | inr t ↦ let s = nat_list_eq_equiv.symm name other ∙ t in let rest = newer name seen names new.1 in ((rw t at (new.0), rest.0), rw s (rest.1))
]

older : (name : List ℕ) (seen names : List (List ℕ)) → AreNew seen names → list_any (bytes_eq name) names ≡ false → AreNew (name ∷ seen) names
older name seen [] new none = tt
older name seen (other ∷ names) new none = elim (cases_Bool (bytes_eq name other)) [
  | inl t ↦ absurd (let bad = rw t at none in cc)
  | inr t ↦ let s = nat_list_eq_equiv.symm other name ∙ t in (rw s (new.0), older name seen names new.1 (rw t at none))
]

new_distinct : (seen : List (List ℕ)) (n : ℕ) (names : List (List ℕ)) → repeated_from seen n names ≡ None → AreNew seen names × (are_distinct names ≡ true)
new_distinct seen n [] e = (tt, refl)
new_distinct seen n (name ∷ names) e = elim (cases_Bool (list_any (bytes_eq name) seen)) [
  | inl t ↦ absurd (let bad = rw t at e in cc)
  | inr t ↦ let rest = new_distinct (name ∷ seen) (n + 1) names (rw t at e) in let parts = newer name seen names rest.0 in ((t, parts.0), rw (parts.1) (rest.1))
]

none_repeated : (seen : List (List ℕ)) (n : ℕ) (names : List (List ℕ)) → AreNew seen names → are_distinct names ≡ true → repeated_from seen n names ≡ None
none_repeated seen n [] new d = refl
none_repeated seen n (name ∷ names) new d = elim (cases_Bool (list_any (bytes_eq name) names)) [
  | inl t ↦ absurd (let bad = rw t at d in cc)
  | inr t ↦ rw (new.0) (none_repeated (name ∷ seen) (n + 1) names (older name seen names new.1 t) (rw t at d))
]

all_new : (names : List (List ℕ)) → AreNew [] names
all_new [] = tt
all_new (name ∷ names) = (refl, all_new names)

pub distinct_none : (names : List (List ℕ)) → are_distinct names ≡ true → first_repeated names ≡ None
distinct_none names d = none_repeated [] 0 names (all_new names) d

pub none_distinct : (names : List (List ℕ)) → first_repeated names ≡ None → are_distinct names ≡ true
none_distinct names e = (new_distinct [] 0 names e).1

-- the names up to the first repeated one

record Cuts (seen : List (List ℕ)) (n : ℕ) (names : List (List ℕ)) (at : ℕ) : Type 0 where
  past : n ≤ at
  within : at < n + length names
  before : repeated_from seen n (take (at - n) names) ≡ None
  with_it : repeated_from seen n (take (suc (at - n)) names) ≡ Some at

cut_here : (seen : List (List ℕ)) (n : ℕ) (name : List ℕ) (names : List (List ℕ)) (at : ℕ) → list_any (bytes_eq name) seen ≡ true → n ≡ at → Cuts seen n (name ∷ names) at
cut_here seen n name names at t here =
    let none : at - n ≡ 0 = omega (arith, here) in
    record {
      past = omega (arith, here);
      within = omega (arith, here);
      before = rw none refl;
      with_it = rw (none, t) (ap Some here);
    }

cut_later : (seen : List (List ℕ)) (n : ℕ) (name : List ℕ) (names : List (List ℕ)) (at : ℕ) → list_any (bytes_eq name) seen ≡ false → Cuts (name ∷ seen) (n + 1) names at → Cuts seen n (name ∷ names) at
cut_later seen n name names at t later =
    let one_more : at - n ≡ suc (at - (n + 1)) = omega (arith, later.past) in
    record {
      past = omega (arith, later.past);
      within = omega (arith, later.within);
      before = rw (one_more, t) (later.before);
      with_it = rw (one_more, t) (later.with_it);
    }

cuts : (seen : List (List ℕ)) (n : ℕ) (names : List (List ℕ)) (at : ℕ) → repeated_from seen n names ≡ Some at → Cuts seen n names at
cuts seen n [] at e = absurd (let bad : None ≡ Some at = e in cc)
cuts seen n (name ∷ names) at e = elim (cases_Bool (list_any (bytes_eq name) seen)) [
  | inl t ↦ cut_here seen n name names at t (same_Some n at (rw t at e))
  | inr t ↦ cut_later seen n name names at t (cuts (name ∷ seen) (n + 1) names at (rw t at e))
]

pub before_distinct : (names : List (List ℕ)) (at : ℕ) → first_repeated names ≡ Some at → are_distinct (take at names) ≡ true
before_distinct names at e = none_distinct (take at names) (let c = cuts [] 0 names at e in let same : at - 0 ≡ at = omega arith in rw same at (c.before))

some_not_none : (at : ℕ) (o : Option ℕ) → o ≡ Some at → o ≡ None → ⊥
some_not_none at o s n = cc

pub with_it_repeated : (names : List (List ℕ)) (at : ℕ) → first_repeated names ≡ Some at → are_distinct (take (at + 1) names) ≡ false
with_it_repeated names at e =
    let c = cuts [] 0 names at e in
    let same : suc (at - 0) ≡ at + 1 = omega arith in
    let there : first_repeated (take (at + 1) names) ≡ Some at = rw same at (c.with_it) in
    elim (cases_Bool (are_distinct (take (at + 1) names))) [
      | inl t ↦ absurd (some_not_none at (first_repeated (take (at + 1) names)) there (distinct_none (take (at + 1) names) t))
      | inr t ↦ t
    ]
