-- The possible types of a type: those to which it applies, and one at most where it is an object type.
use Rattle.std.proofs.Common.{◌≡◌, ◌⊎◌, inl, inr, ⊎_elim, ℕ, zero, suc, ◌+◌, ◌<◌, List, [], ◌∷◌, get_or, Bool, true, false, true≢false, ◌||◌, eqb, eqb-true, refl, sym, ap, ◌∙◌, subst, arith}
use Rattle.std.specs.Prelude.{if◌then◌else◌}
use Rattle.std.proofs.lemmas.Bool.{cases_Bool}
use Rattle.schema_rules.specs.declared.kind.Kind.{Kind}
use Rattle.schema_rules.specs.declared.kind.Kind.TheVariants.{Object}
use Rattle.schema_rules.specs.Kinds.{is_object}
use Rattle.schema_model.specs.SchemaData.{TypeData, SchemaData, type_at, applies_to, applies, numbers_from, is_possible, possible_types, all_possible, possible}
use Rattle.plan_model.specs.Responses.{is_among}

-- one at most
abbrev pub HasNoSecond : List ℕ → Type 0
HasNoSecond [] = Unit {0}
HasNoSecond (T ∷ []) = Unit {0}
HasNoSecond (T ∷ (U ∷ Ts)) = ⊥

past : (A n : ℕ) → A < n → n ≡ A → ⊥
past A n less is = omega arith

further : (A n : ℕ) → A < n → A < n + 1
further A n less = omega arith

next : (A n : ℕ) → n ≡ A → A < n + 1
next A n is = omega arith

module _ (test : ℕ → TypeData → Bool) where
  module _ (A : ℕ) (only : (n : ℕ) (t : TypeData) → test n t ≡ true → n ≡ A) where
    none_past : (n : ℕ) (types : List TypeData) → A < n → numbers_from n test types ≡ []
    none_past n [] less = refl
    none_past n (t ∷ types) less = ⊎_elim
        (λ (passes : test n t ≡ true). absurd (past A n less (only n t passes)))
        (λ (fails : test n t ≡ false). rw (fails) (none_past (n + 1) types (further A n less)))
        (cases_Bool (test n t))

    no_second : (n : ℕ) (types : List TypeData) → HasNoSecond (numbers_from n test types)
    no_second n [] = tt
    no_second n (t ∷ types) = ⊎_elim
        (λ (passes : test n t ≡ true). rw (passes) (subst (λ (Ts : List ℕ). HasNoSecond (n ∷ Ts)) (sym (none_past (n + 1) types (next A n (only n t passes)))) tt))
        (λ (fails : test n t ≡ false). rw (fails) (no_second (n + 1) types))
        (cases_Bool (test n t))

  -- a number among them passes the test
  passing : (n : ℕ) (types : List TypeData) (other : TypeData) (U : ℕ) → is_among U (numbers_from n test types) ≡ true → (i : ℕ) × (U ≡ n + i) × (test U (get_or types i other) ≡ true)
  passing n [] other U among = absurd (true≢false (sym among))
  passing n (t ∷ types) other U among = ⊎_elim
      (λ (passes : test n t ≡ true). ⊎_elim
      (λ (here : eqb n U ≡ true). (let is : n ≡ U = eqb-true n U here in let e : U ≡ n + 0 = omega (arith, is) in (0, e, subst (λ (m : ℕ). test m t ≡ true) is passes)))
      (λ (later : eqb n U ≡ false). onward (passing (n + 1) types other U (sym (ap (λ (b : Bool). b || is_among U (numbers_from (n + 1) test types)) later) ∙ (sym (ap (λ (b : Bool). is_among U (if b then n ∷ numbers_from (n + 1) test types else numbers_from (n + 1) test types)) passes) ∙ among))))
      (cases_Bool (eqb n U)))
      (λ (fails : test n t ≡ false). onward (passing (n + 1) types other U (sym (ap (λ (b : Bool). is_among U (if b then n ∷ numbers_from (n + 1) test types else numbers_from (n + 1) test types)) fails) ∙ among)))
      (cases_Bool (test n t))
    where
      onward : (i : ℕ) × (U ≡ (n + 1) + i) × (test U (get_or types i other) ≡ true) → (i : ℕ) × (U ≡ n + i) × (test U (get_or (t ∷ types) i other) ≡ true)
      onward found = (let is = found.1 in let e : U ≡ n + suc found.0 = omega (arith, is) in (suc found.0, e, found.2))

-- the possible types of one type
its_possible : (n : ℕ) (all types : List TypeData) (other : TypeData) (c : ℕ) → (get_or (all_possible n all types) c [] ≡ []) ⊎ (get_or (all_possible n all types) c [] ≡ possible_types all (n + c) (get_or types c other))
its_possible n all [] other zero = inl refl
its_possible n all [] other (suc c) = inl refl
its_possible n all (t ∷ types) other zero = let e : n ≡ n + 0 = omega arith in inr (ap (λ (m : ℕ). possible_types all m t) e)
its_possible n all (t ∷ types) other (suc c) = ⊎_elim
    (λ none. inl none)
    (λ these. (let e : (n + 1) + c ≡ n + suc c = omega arith in inr (these ∙ ap (λ (m : ℕ). possible_types all m (get_or types c other)) e)))
    (its_possible (n + 1) all types other c)

when_object : (b c : Bool) → (if b then c else false) ≡ true → c ≡ true
when_object true c h = h
when_object false c h = absurd (true≢false (sym h))

no_front : (c : ℕ) → 0 + c ≡ c
no_front c = omega arith

module _ (s : SchemaData) where
  of_possible : (c : ℕ) → (possible s c ≡ []) ⊎ (possible s c ≡ possible_types s.types c (type_at s c))
  of_possible c = ⊎_elim
      (λ none. inl none)
      (λ these. inr (these ∙ ap (λ (m : ℕ). possible_types s.types m (type_at s c)) (no_front c)))
      (its_possible 0 s.types s.types s.other_type c)

  pub possible_applies : (c U : ℕ) → is_among U (possible s c) ≡ true → applies s c U ≡ true
  possible_applies c U among = ⊎_elim
      (λ none. absurd (true≢false (sym among ∙ ap (is_among U) none)))
      (λ these. (
      let found = passing (is_possible (type_at s c) c) 0 s.types s.other_type U (sym (ap (is_among U) these) ∙ among) in
      let is : found.0 ≡ U = sym (found.1 ∙ no_front found.0) in
      when_object (is_object (type_at s U).kind) (applies s c U) (subst (λ (i : ℕ). is_possible (type_at s c) c U (get_or s.types i s.other_type) ≡ true) is found.2)
      ))
      (of_possible c)

  only_itself : (c : ℕ) (kind : Kind) → kind ≡ Object → (n : ℕ) (t : TypeData) → (if is_object t.kind then applies_to kind c n (type_at s c) t else false) ≡ true → n ≡ c
  only_itself c kind is n t passes =
      sym (eqb-true c n (subst (λ (k : Kind). applies_to k c n (type_at s c) t ≡ true) is (when_object (is_object t.kind) (applies_to kind c n (type_at s c) t) passes)))

  pub object_alone : (c : ℕ) → (type_at s c).kind ≡ Object → HasNoSecond (possible s c)
  object_alone c is = ⊎_elim
      (λ none. subst HasNoSecond (sym none) tt)
      (λ these. subst HasNoSecond (sym these) (no_second (is_possible (type_at s c) c) c (only_itself c (type_at s c).kind is) 0 s.types))
      (of_possible c)
