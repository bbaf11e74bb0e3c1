-- The response keys of fields, one list behind another, and key by key.
use Rattle.std.proofs.Common.{◌≡◌, ⊎_elim, ℕ, zero, ◌<◌, length, List, [], ◌∷◌, ◌++◌, map, filter, flat_map, Bool, true, false, true≢false, not, ◌||◌, bytes_eq, refl, sym, ap, ◌∙◌, append-nil, arith, if◌then◌else◌}
use Rattle.std.specs.List.{list_any}
use Rattle.std.proofs.lemmas.Bool.{cases_Bool}
use Rattle.std.proofs.lemmas.List.Elements.{filter-append}
use Rattle.std.proofs.lemmas.Slice.Eq.{bytes_eq-Decides}
use Rattle.plan_model.specs.Collecting.{CollectedField}
use Rattle.plan_model.specs.Merging.{keys_from, keys_of, has_key, fields_of_key}
use Rattle.collected_fields.proofs.GroupLaws.{or_swap, or_none, or_left, or_right, bytes_same, any_of_same, swapped_eq, AreApart, keys_apart, none_of_key, alone_of_key}
use Rattle.collected_fields.specs.Walks.{NumberedField, field_alone}

-- ---- lists that are filtered

module _ {A : Type 0} where
  pub filter_same : (p q : A → Bool) → ((x : A) → p x ≡ q x) → (xs : List A) → filter p xs ≡ filter q xs
  filter_same p q same [] = refl
  filter_same p q same (x ∷ xs) = ⊎_elim
      (λ (is : q x ≡ true). rw (same x ∙ is) (rw (is) (ap (λ ys. x ∷ ys) (filter_same p q same xs))))
      (λ (is : q x ≡ false). rw (same x ∙ is) (rw (is) (filter_same p q same xs)))
      (cases_Bool (q x))

  pub filter_both : (p q r : A → Bool) → ((x : A) → r x ≡ (if q x then p x else false)) → (xs : List A) → filter p (filter q xs) ≡ filter r xs
  filter_both p q r both [] = refl
  filter_both p q r both (x ∷ xs) = ⊎_elim
      (λ (is : q x ≡ true). rw (is) (⊎_elim
      (λ (stays : p x ≡ true). rw (stays) (rw (both x ∙ (ap (λ b. if b then p x else false) is ∙ stays)) (ap (λ ys. x ∷ ys) (filter_both p q r both xs))))
      (λ (goes : p x ≡ false). rw (goes) (rw (both x ∙ (ap (λ b. if b then p x else false) is ∙ goes)) (filter_both p q r both xs)))
      (cases_Bool (p x))))
      (λ (is : q x ≡ false). rw (is) (rw (both x ∙ ap (λ b. if b then p x else false) is) (filter_both p q r both xs)))
      (cases_Bool (q x))

-- ---- keys that were not seen

abbrev Fields : Type 0
Fields = List CollectedField

abbrev Keys : Type 0
Keys = List (List ℕ)

abbrev is_new : Keys → List ℕ → Bool
is_new seen key = not (list_any (bytes_eq key) seen)

either_new : (a b : Bool) → not (a || b) ≡ (if not (a || false) then not b else false)
either_new true b = refl
either_new false b = refl

seen_already : (seen : Keys) (key k : List ℕ) → list_any (bytes_eq key) seen ≡ true → is_new seen k ≡ (if is_new (key ∷ []) k then is_new seen k else false)
seen_already seen key k was = ⊎_elim
    (λ (is : bytes_eq k key ≡ true). rw (any_of_same k key seen is ∙ was) (rw (is) refl))
    (λ (unlike : bytes_eq k key ≡ false). rw (unlike) refl)
    (cases_Bool (bytes_eq k key))

-- the keys that were not seen are those of all keys that were not
keys_filtered : (seen : Keys) (xs : Fields) → keys_from seen xs ≡ filter (is_new seen) (keys_of xs)
keys_filtered seen [] = refl
keys_filtered seen (x ∷ xs) = ⊎_elim
    (λ (was : list_any (bytes_eq x.key) seen ≡ true). rw (was) (keys_filtered seen xs ∙ sym (ap (filter (is_new seen)) (keys_filtered (x.key ∷ []) xs) ∙ filter_both (is_new seen) (is_new (x.key ∷ [])) (is_new seen) (λ k. seen_already seen x.key k was) (keys_of xs))))
    (λ (new : list_any (bytes_eq x.key) seen ≡ false). rw (new) (ap (λ (keys : Keys). x.key ∷ keys) (keys_filtered (x.key ∷ seen) xs
    ∙ sym (ap (filter (is_new seen)) (keys_filtered (x.key ∷ []) xs) ∙ filter_both (is_new seen) (is_new (x.key ∷ [])) (is_new (x.key ∷ seen)) (λ k. either_new (bytes_eq k x.key) (list_any (bytes_eq k) seen)) (keys_of xs)))))
    (cases_Bool (list_any (bytes_eq x.key) seen))

abbrev is_new_beside : Keys → Keys → List ℕ → Bool
is_new_beside seen keys key = not (list_any (bytes_eq key) seen || list_any (bytes_eq key) keys)

keys_behind : (seen : Keys) (xs ys : Fields) → keys_from seen (xs ++ ys) ≡ keys_from seen xs ++ filter (is_new_beside seen (keys_from seen xs)) (keys_of ys)
keys_behind seen [] ys = keys_filtered seen ys ∙ filter_same (is_new seen) (is_new_beside seen []) (λ k. ap not (sym (or_none (list_any (bytes_eq k) seen)))) (keys_of ys)
keys_behind seen (x ∷ xs) ys = ⊎_elim
    (λ (was : list_any (bytes_eq x.key) seen ≡ true). rw (was) (keys_behind seen xs ys))
    (λ (new : list_any (bytes_eq x.key) seen ≡ false). rw (new) (ap (λ (keys : Keys). x.key ∷ keys) (keys_behind (x.key ∷ seen) xs ys
    ∙ ap (λ (keys : Keys). keys_from (x.key ∷ seen) xs ++ keys) (filter_same (is_new_beside (x.key ∷ seen) (keys_from (x.key ∷ seen) xs)) (is_new_beside seen (x.key ∷ keys_from (x.key ∷ seen) xs))
    (λ k. ap not (or_swap (bytes_eq k x.key) (list_any (bytes_eq k) seen) (list_any (bytes_eq k) (keys_from (x.key ∷ seen) xs)))) (keys_of ys)))))
    (cases_Bool (list_any (bytes_eq x.key) seen))

-- The keys of two lists are found by those of each.
pub keys_joined : (fs gs ns ms : Fields) → keys_of fs ≡ keys_of ns → keys_of gs ≡ keys_of ms → keys_of (fs ++ gs) ≡ keys_of (ns ++ ms)
keys_joined fs gs ns ms first second =
    keys_behind [] fs gs ∙ (ap (λ (keys : Keys). keys ++ filter (is_new_beside [] keys) (keys_of gs)) first
    ∙ (ap (λ (keys : Keys). keys_of ns ++ filter (is_new_beside [] (keys_of ns)) keys) second ∙ sym (keys_behind [] ns ms)))

-- ---- the fields of one key after another

abbrev pub by_keys : Fields → Keys → Fields
by_keys fields keys = flat_map (λ key. fields_of_key key fields) keys

-- of a key itself, and of another
of_same_key : (fields : Fields) (key : List ℕ) → fields_of_key key (fields_of_key key fields) ≡ fields_of_key key fields
of_same_key fields key = filter_both (has_key key) (has_key key) (has_key key) (λ f. twice (has_key key f)) fields
  where
    twice : (b : Bool) → b ≡ (if b then b else false)
    twice true = refl
    twice false = refl

other_keys : (f : CollectedField) (key k : List ℕ) → bytes_eq key k ≡ false → has_key k f ≡ true → has_key key f ≡ false
other_keys f key k unlike is = ap (λ (n : List ℕ). bytes_eq n key) ((bytes_eq-Decides f.key k).0 is) ∙ swapped_eq key k unlike

pub of_other_key : (fields : Fields) (key k : List ℕ) → bytes_eq key k ≡ false → fields_of_key key (fields_of_key k fields) ≡ []
of_other_key [] key k unlike = refl
of_other_key (f ∷ fields) key k unlike = ⊎_elim
    (λ (is : has_key k f ≡ true). rw (is) (rw (other_keys f key k unlike is) (of_other_key fields key k unlike)))
    (λ (is : has_key k f ≡ false). rw (is) (of_other_key fields key k unlike))
    (cases_Bool (has_key k f))

none_among : (fields : Fields) (key : List ℕ) (keys : Keys) → list_any (bytes_eq key) keys ≡ false → fields_of_key key (by_keys fields keys) ≡ []
none_among fields key [] h = refl
none_among fields key (k ∷ keys) h =
    filter-append (has_key key) (fields_of_key k fields) (by_keys fields keys)
    ∙ (ap (λ (fs : Fields). fs ++ fields_of_key key (by_keys fields keys)) (of_other_key fields key k (or_left (bytes_eq key k) (list_any (bytes_eq key) keys) h)) ∙ none_among fields key keys (or_right (bytes_eq key k) (list_any (bytes_eq key) keys) h))

-- the fields of a key that is one of them
those_of_key : (fields : Fields) (key : List ℕ) (keys : Keys) → AreApart keys → list_any (bytes_eq key) keys ≡ true → fields_of_key key (by_keys fields keys) ≡ fields_of_key key fields
those_of_key fields key [] apart h = absurd (true≢false (sym h))
those_of_key fields key (k ∷ keys) apart h = ⊎_elim
    (λ (is : bytes_eq key k ≡ true).
    let same : key ≡ k = (bytes_eq-Decides key k).0 is in
    filter-append (has_key key) (fields_of_key k fields) (by_keys fields keys)
    ∙ (ap (λ (fs : Fields). fs ++ fields_of_key key (by_keys fields keys)) (ap (λ (n : List ℕ). fields_of_key key (fields_of_key n fields)) (sym same) ∙ of_same_key fields key)
    ∙ (ap (λ (fs : Fields). fields_of_key key fields ++ fs) (none_among fields key keys (any_of_same key k keys is ∙ apart.0)) ∙ append-nil (fields_of_key key fields))))
    (λ (unlike : bytes_eq key k ≡ false).
    filter-append (has_key key) (fields_of_key k fields) (by_keys fields keys)
    ∙ (ap (λ (fs : Fields). fs ++ fields_of_key key (by_keys fields keys)) (of_other_key fields key k unlike) ∙ those_of_key fields key keys apart.1 (sym (ap (λ (b : Bool). b || list_any (bytes_eq key) keys) unlike) ∙ h)))
    (cases_Bool (bytes_eq key k))

abbrev zero_numbered : Fields → List NumberedField
zero_numbered xs = map (λ f. (f, zero)) xs

alone_again : (xs : Fields) → map field_alone (zero_numbered xs) ≡ xs
alone_again [] = refl
alone_again (x ∷ xs) = ap (λ ys. x ∷ ys) (alone_again xs)

-- a key that is none of the keys has no fields
pub absent : (xs : Fields) (key : List ℕ) → list_any (bytes_eq key) (keys_of xs) ≡ false → fields_of_key key xs ≡ []
absent xs key h =
    ap (fields_of_key key) (sym (alone_again xs)) ∙ (sym (alone_of_key key (zero_numbered xs))
    ∙ ap (map field_alone) (none_of_key [] (zero_numbered xs) key refl (ap (λ (ys : Fields). list_any (bytes_eq key) (keys_of ys)) (alone_again xs) ∙ h)))

-- Fields in the order of their keys are the same key by key.
pub same_by_keys : (fields : Fields) (key : List ℕ) → fields_of_key key (by_keys fields (keys_of fields)) ≡ fields_of_key key fields
same_by_keys fields key = ⊎_elim
    (λ (is : list_any (bytes_eq key) (keys_of fields) ≡ true). those_of_key fields key (keys_of fields) (keys_apart [] fields) is)
    (λ (no_key : list_any (bytes_eq key) (keys_of fields) ≡ false). none_among fields key (keys_of fields) no_key ∙ sym (absent fields key no_key))
    (cases_Bool (list_any (bytes_eq key) (keys_of fields)))

-- ---- and have the same keys

abbrev pub HaveKey : List ℕ → Fields → Type 0
HaveKey key [] = Unit {0}
HaveKey key (f ∷ fields) = (f.key ≡ key) × HaveKey key fields

pub have_key : (fields : Fields) (key : List ℕ) → HaveKey key (fields_of_key key fields)
have_key [] key = tt
have_key (f ∷ fields) key = ⊎_elim
    (λ (is : has_key key f ≡ true). rw (is) ((bytes_eq-Decides f.key key).0 is, have_key fields key))
    (λ (is : has_key key f ≡ false). rw (is) (have_key fields key))
    (cases_Bool (has_key key f))

no_more_keys : (fields : Fields) (key : List ℕ) (seen : Keys) → HaveKey key fields → list_any (bytes_eq key) seen ≡ true → keys_from seen fields ≡ []
no_more_keys [] key seen h was = refl
no_more_keys (f ∷ fields) key seen h was = rw (ap (λ (k : List ℕ). list_any (bytes_eq k) seen) h.0 ∙ was) (no_more_keys fields key seen h.1 was)

pub one_key : (fields : Fields) (key : List ℕ) → HaveKey key fields → 0 < length fields → keys_of fields ≡ key ∷ []
one_key [] key h filled = absurd (none_less filled)
  where
    none_less : 0 < 0 → ⊥
    none_less h = omega arith
one_key (f ∷ fields) key h filled = ap (λ (k : List ℕ). k ∷ keys_from (k ∷ []) fields) h.0 ∙ ap (λ (keys : Keys). key ∷ keys) (no_more_keys fields key (key ∷ []) h.1 (ap (λ (b : Bool). b || false) (bytes_same key)))

-- a key of fields has some
pub some_of_key : (seen : Keys) (xs : Fields) (key : List ℕ) → list_any (bytes_eq key) (keys_from seen xs) ≡ true → 0 < length (fields_of_key key xs)
some_of_key seen [] key h = absurd (true≢false (sym h))
some_of_key seen (x ∷ xs) key h = ⊎_elim
    (λ (was : list_any (bytes_eq x.key) seen ≡ true). longer (has_key key x) (some_of_key seen xs key (sym (passed was) ∙ h)))
    (λ (new : list_any (bytes_eq x.key) seen ≡ false). ⊎_elim
    (λ (is : bytes_eq key x.key ≡ true). first (ap (λ (k : List ℕ). bytes_eq k key) (sym ((bytes_eq-Decides key x.key).0 is)) ∙ bytes_same key))
    (λ (unlike : bytes_eq key x.key ≡ false). longer (has_key key x) (some_of_key (x.key ∷ seen) xs key (sym (ap (λ (b : Bool). b || list_any (bytes_eq key) (keys_from (x.key ∷ seen) xs)) unlike) ∙ (sym (taken new) ∙ h))))
    (cases_Bool (bytes_eq key x.key)))
    (cases_Bool (list_any (bytes_eq x.key) seen))
  where
    passed : list_any (bytes_eq x.key) seen ≡ true → list_any (bytes_eq key) (keys_from seen (x ∷ xs)) ≡ list_any (bytes_eq key) (keys_from seen xs)
    passed was = rw (was) refl

    taken : list_any (bytes_eq x.key) seen ≡ false → list_any (bytes_eq key) (keys_from seen (x ∷ xs)) ≡ bytes_eq key x.key || list_any (bytes_eq key) (keys_from (x.key ∷ seen) xs)
    taken new = rw (new) refl

    longer : (b : Bool) → 0 < length (fields_of_key key xs) → 0 < length (if b then x ∷ fields_of_key key xs else fields_of_key key xs)
    longer true h = omega arith
    longer false h = h

    first : has_key key x ≡ true → 0 < length (fields_of_key key (x ∷ xs))
    first is = rw (is) (omega arith)

abbrev pub AreFilledFor : Fields → Keys → Type 0
AreFilledFor fields [] = Unit {0}
AreFilledFor fields (key ∷ keys) = (0 < length (fields_of_key key fields)) × AreFilledFor fields keys

filled_for : (fields : Fields) (keys : Keys) → ((key : List ℕ) → list_any (bytes_eq key) keys ≡ true → list_any (bytes_eq key) (keys_of fields) ≡ true) → AreFilledFor fields keys
filled_for fields [] inside = tt
filled_for fields (key ∷ keys) inside = (some_of_key [] fields key (inside key (ap (λ (b : Bool). b || list_any (bytes_eq key) keys) (bytes_same key))), filled_for fields keys (λ k is. inside k (or_too (bytes_eq k key) (list_any (bytes_eq k) keys) is)))
  where
    or_too : (a b : Bool) → b ≡ true → a || b ≡ true
    or_too true b q = refl
    or_too false b q = q

all_new : (key : List ℕ) (keys : Keys) → list_any (bytes_eq key) keys ≡ false → filter (is_new_beside [] (key ∷ [])) keys ≡ keys
all_new key [] h = refl
all_new key (k ∷ keys) h = rw (swapped_eq key k (or_left (bytes_eq key k) (list_any (bytes_eq key) keys) h)) (ap (λ (ks : Keys). k ∷ ks) (all_new key keys (or_right (bytes_eq key k) (list_any (bytes_eq key) keys) h)))

keys_by_keys : (fields : Fields) (keys : Keys) → AreApart keys → AreFilledFor fields keys → keys_of (by_keys fields keys) ≡ keys
keys_by_keys fields [] apart filled = refl
keys_by_keys fields (key ∷ keys) apart filled =
    let here : keys_of (fields_of_key key fields) ≡ key ∷ [] = one_key (fields_of_key key fields) key (have_key fields key) filled.0 in
    keys_behind [] (fields_of_key key fields) (by_keys fields keys)
    ∙ (ap (λ (ks : Keys). ks ++ filter (is_new_beside [] ks) (keys_of (by_keys fields keys))) here
    ∙ (ap (λ (ks : Keys). key ∷ filter (is_new_beside [] (key ∷ [])) ks) (keys_by_keys fields keys apart.1 filled.1) ∙ ap (λ (ks : Keys). key ∷ ks) (all_new key keys apart.0)))

pub same_keys_by_keys : (fields : Fields) → keys_of (by_keys fields (keys_of fields)) ≡ keys_of fields
same_keys_by_keys fields = keys_by_keys fields (keys_of fields) (keys_apart [] fields) (filled_for fields (keys_of fields) (λ key is. is))

pub all_filled_for : (fields : Fields) → AreFilledFor fields (keys_of fields)
all_filled_for fields = filled_for fields (keys_of fields) (λ key is. is)
