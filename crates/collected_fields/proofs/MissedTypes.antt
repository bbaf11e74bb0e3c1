-- Types that are missed, and those that are among others.
use Rattle.std.proofs.Common.{◌≡◌, ◌⊎◌, inl, inr, ⊎_elim, ◌<◌, ◌≤◌, ◌+◌, ℕ, zero, suc, List, [], ◌∷◌, ◌++◌, map, filter, drop, length, get_or, slice_set, Bool, true, false, true≢false, ◌&&◌, nat_eq, Option, Some, None, refl, sym, ap, ◌∙◌, append_assoc, append-nil, arith}
use Rattle.std.specs.List.{list_any}
use Rattle.std.proofs.lemmas.Bool.{cases_lt, ne_eqb}
use Rattle.std.proofs.lemmas.List.{drop_all, get_or_past}
use Rattle.std.proofs.lemmas.Option.{same_Some}
use Rattle.gql_base.proofs.Lists.{at_front}
use Rattle.input_values.specs.declared.inputs.shape.TypeId.{TypeId}
use Rattle.schema_model.specs.Numbers.{type_number}
use Rattle.schema_model.specs.SchemaData.{SchemaData, applies, possible, IsPossibleType}
use Rattle.schema_model.proofs.PossibleLaws.{possible_iff}
use Rattle.collected_fields.specs.Reached.{IsObjectType, is_marked_in}

-- ---- types to which a condition applies

module _ (s : SchemaData) (on : ℕ) where
  not_possible : (types : List TypeId) (T : ℕ) → map type_number types ≡ possible s on → on < length s.types → IsObjectType s T → list_any (nat_eq T) (map type_number types) ≡ false → applies s on T ≡ false
  not_possible types T is there object missing = unless (applies s on T) refl
    where
      unless : (b : Bool) → applies s on T ≡ b → applies s on T ≡ false
      unless true h =
          let found : IsPossibleType s on T = record { condition = there; type = object.there; object = object.object; applies_there = h } in
          absurd (true≢false (sym ((possible_iff s on T).1 found) ∙ (ap (list_any (nat_eq T)) (sym is) ∙ missing)))
      unless false h = h

  pub missed_where : (types : List TypeId) (T : ℕ) (b : Bool) → map type_number types ≡ possible s on → on < length s.types → IsObjectType s T → (b && list_any (nat_eq T) (map type_number types)) ≡ false → applies s on T ≡ true → b ≡ false
  missed_where types T b is there object missing applied = unless (list_any (nat_eq T) (map type_number types)) refl
    where
      both : (a : Bool) → (a && true) ≡ false → a ≡ false
      both true h = h
      both false h = refl

      unless : (x : Bool) → list_any (nat_eq T) (map type_number types) ≡ x → b ≡ false
      unless true h = both b (ap (λ x. b && x) (sym h) ∙ missing)
      unless false h = absurd (true≢false (sym applied ∙ not_possible types T is there object h))

-- ---- types among others

module _ (passes : ℕ → Bool) (types : List TypeId) where
  abbrev pub passing : List TypeId → List ℕ
  passing ts = filter passes (map type_number ts)

  pub one_passes : (some : List TypeId) (at : ℕ) (of : TypeId) → at < length types → of ≡ get_or types at of → passes of.number ≡ true → map type_number some ++ passing (drop at types) ≡ passing types → map type_number (some ++ (of ∷ [])) ++ passing (drop (at + 1) types) ≡ passing types
  one_passes some at of here is passed before =
      ap (λ ns. ns ++ passing (drop (at + 1) types)) (numbers some)
      ∙ (append_assoc (map type_number some) (of.number ∷ []) (passing (drop (at + 1) types)) ∙ (ap (λ ns. map type_number some ++ ns) (sym (ap passing (at_front types at of here is) ∙ front)) ∙ before))
    where
      numbers : (xs : List TypeId) → map type_number (xs ++ (of ∷ [])) ≡ map type_number xs ++ (of.number ∷ [])
      numbers [] = refl
      numbers (x ∷ xs) = ap (λ ns. x.number ∷ ns) (numbers xs)

      front : passing (of ∷ drop (at + 1) types) ≡ of.number ∷ passing (drop (at + 1) types)
      front = rw (passed) refl

  pub one_left_out : (some : List TypeId) (at : ℕ) (of : TypeId) → at < length types → of ≡ get_or types at of → passes of.number ≡ false → map type_number some ++ passing (drop at types) ≡ passing types → map type_number some ++ passing (drop (at + 1) types) ≡ passing types
  one_left_out some at of here is failed before = ap (λ ns. map type_number some ++ ns) (sym (ap passing (at_front types at of here is) ∙ front)) ∙ before
    where
      front : passing (of ∷ drop (at + 1) types) ≡ passing (drop (at + 1) types)
      front = rw (failed) refl

  pub all_passed : (some : List TypeId) (at : ℕ) → length types ≤ at → map type_number some ++ passing (drop at types) ≡ passing types → map type_number some ≡ passing types
  all_passed some at past before = sym (append-nil (map type_number some)) ∙ (ap (λ ts. map type_number some ++ passing ts) (sym (drop_all at types past)) ∙ before)

-- ---- types that are marked

pub unmarked_pushed : (marks : List Bool) (T : ℕ) → is_marked_in (marks ++ (false ∷ [])) T ≡ is_marked_in marks T
unmarked_pushed [] zero = refl
unmarked_pushed [] (suc T) = refl
unmarked_pushed (m ∷ marks) zero = refl
unmarked_pushed (m ∷ marks) (suc T) = unmarked_pushed marks T

pub one_marked : (marks : List Bool) (number T : ℕ) → number < length marks → is_marked_in (slice_set marks number true) T ≡ false → (is_marked_in marks T ≡ false) × (nat_eq T number ≡ false)
one_marked marks number T less h = let found = unmarked marks number T less h in (found.0, ne_eqb T number found.1)
  where
    unmarked : (marks : List Bool) (number T : ℕ) → number < length marks → is_marked_in (slice_set marks number true) T ≡ false → (is_marked_in marks T ≡ false) × (T ≡ number → ⊥)
    unmarked [] number T less h = absurd (omega (arith, less))
    unmarked (m ∷ marks) zero zero less h = absurd (true≢false h)
    unmarked (m ∷ marks) zero (suc T) less h = (h, λ same. omega (arith, same))
    unmarked (m ∷ marks) (suc number) zero less h = (h, λ same. omega (arith, same))
    unmarked (m ∷ marks) (suc number) (suc T) less h = let found = unmarked marks number T (omega (arith, less)) h in (found.0, λ same. found.1 (omega (arith, same)))

pub unmarked_so_far : (marks : List Bool) (at T : ℕ) → length marks ≤ at → (T < at → is_marked_in marks T ≡ false) → is_marked_in marks T ≡ false
unmarked_so_far marks at T past so_far = ⊎_elim
    (λ (less : T < at). so_far less)
    (λ (behind : at ≤ T). get_or_past marks T false (omega (arith, past, behind)))
    (cases_lt T at)

-- ---- what is kept at places

module _ {A : Type 0} where
  pub none_pushed : (xs : List (Option A)) (place : ℕ) → get_or (xs ++ (None ∷ [])) place None ≡ get_or xs place None
  none_pushed [] zero = refl
  none_pushed [] (suc place) = refl
  none_pushed (x ∷ xs) zero = refl
  none_pushed (x ∷ xs) (suc place) = none_pushed xs place

  pub one_set : (xs : List (Option A)) (at : ℕ) (x : A) (place : ℕ) (y : A) → get_or (slice_set xs at (Some x)) place None ≡ Some y → (get_or xs place None ≡ Some y) ⊎ ((place ≡ at) × (y ≡ x))
  one_set [] at x place y h = inl h
  one_set (o ∷ xs) zero x zero y h = inr (refl, sym (same_Some x y h))
  one_set (o ∷ xs) zero x (suc place) y h = inl h
  one_set (o ∷ xs) (suc at) x zero y h = inl h
  one_set (o ∷ xs) (suc at) x (suc place) y h = ⊎_elim
      (λ (before : get_or xs place None ≡ Some y). inl before)
      (λ (is : (place ≡ at) × (y ≡ x)). inr (ap suc is.0, is.1))
      (one_set xs at x place y h)
