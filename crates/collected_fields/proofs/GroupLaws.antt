-- The fields of a key, with one field more.
use Rattle.std.proofs.Common.{◌≡◌, ⊎_elim, ℕ, zero, suc, ◌+◌, ◌<◌, ◌≤◌, ltb, List, [], ◌∷◌, ◌++◌, map, take, filter, length, slice_get, get_or, Bool, true, false, true≢false, ◌||◌, bytes_eq, Option, Some, None, Vec, append-nil, is_some, refl, sym, ap, ◌∙◌, subst, arith, if◌then◌else◌}
use Rattle.std.specs.declared.alloc.Global.{Global}
use Rattle.std.specs.Prelude.{option_map, All}
use Rattle.std.specs.List.{list_any}
use Rattle.std.proofs.lemmas.Bool.{cases_Bool, cases_lt, lt-ltb, le-ltb}
use Rattle.std.proofs.lemmas.Option.{none-some, same_Some}
use Rattle.std.proofs.lemmas.List.{map_push, take_more, take_all, length-map}
use Rattle.std.proofs.lemmas.List.Elements.{All-cons}
use Rattle.std.proofs.lemmas.Slice.Eq.{bytes_eq-Decides}
use Rattle.std.specs.Map.{values_of, keys_of as keys_of_entries}
use Rattle.std.specs.Borrow.{Bor}
use Rattle.indexmap.specs.Layout.{set_value_at}
use Rattle.std.specs.List.{position, position_or_len}
use Rattle.plan_model.specs.Collecting.{CollectedField}
use Rattle.plan_model.specs.Merging.{keys_from, keys_of, has_key, fields_of_key}
use Rattle.plan_model.proofs.Thinning.{Each}
use Rattle.collected_fields.specs.declared.group.Groups.{Groups}
use Rattle.collected_fields.specs.declared.collected.Collected.{Collected}
use Rattle.collected_fields.specs.Walks.{NumberedField, numbered, field_alone, numbered_by_key, numbered_group}
use Rattle.collected_fields.specs.Grouping.{keys_grouped, fields_grouped, place_in, appended_at, AreGrouped}

-- ---- names

pub bytes_same : (a : List ℕ) → bytes_eq a a ≡ true
bytes_same a = (bytes_eq-Decides a a).1 refl

pub any_of_same : (a b : List ℕ) (names : List (List ℕ)) → bytes_eq a b ≡ true → list_any (bytes_eq a) names ≡ list_any (bytes_eq b) names
any_of_same a b names is = ap (λ (n : List ℕ). list_any (bytes_eq n) names) ((bytes_eq-Decides a b).0 is)

pub turned_eq : (a b : List ℕ) → bytes_eq a b ≡ true → bytes_eq b a ≡ true
turned_eq a b is = (bytes_eq-Decides b a).1 (sym ((bytes_eq-Decides a b).0 is))

pub swapped_eq : (a b : List ℕ) → bytes_eq a b ≡ false → bytes_eq b a ≡ false
swapped_eq a b differ = ⊎_elim
    (λ (is : bytes_eq b a ≡ true). absurd (true≢false (sym (ap (λ (n : List ℕ). bytes_eq n b) (sym ((bytes_eq-Decides b a).0 is)) ∙ bytes_same b) ∙ differ)))
    (λ (unlike : bytes_eq b a ≡ false). unlike)
    (cases_Bool (bytes_eq b a))

pub or_swap : (a b c : Bool) → (a || b) || c ≡ b || (a || c)
or_swap true true c = refl
or_swap true false c = refl
or_swap false true c = refl
or_swap false false c = refl

pub or_none : (a : Bool) → a || false ≡ a
or_none true = refl
or_none false = refl

pub or_left : (a b : Bool) → a || b ≡ false → a ≡ false
or_left true b h = h
or_left false b h = refl

pub or_right : (a b : Bool) → a || b ≡ false → b ≡ false
or_right true b h = absurd (true≢false h)
or_right false b h = h

-- ---- keys

abbrev Fields : Type 0
Fields = List CollectedField

keys_push : (seen : List (List ℕ)) (xs : Fields) (f : CollectedField) → keys_from seen (xs ++ (f ∷ [])) ≡ keys_from seen xs ++ (if list_any (bytes_eq f.key) seen || list_any (bytes_eq f.key) (keys_from seen xs) then [] else f.key ∷ [])
keys_push seen [] f = rw (or_none (list_any (bytes_eq f.key) seen)) refl
keys_push seen (x ∷ xs) f = ⊎_elim
    (λ (is : list_any (bytes_eq x.key) seen ≡ true). rw (is) (keys_push seen xs f))
    (λ (new : list_any (bytes_eq x.key) seen ≡ false). rw (new) (ap (λ (ks : List (List ℕ)). x.key ∷ ks) (keys_push (x.key ∷ seen) xs f
    ∙ ap (λ (b : Bool). keys_from (x.key ∷ seen) xs ++ (if b then [] else f.key ∷ [])) (or_swap (bytes_eq f.key x.key) (list_any (bytes_eq f.key) seen) (list_any (bytes_eq f.key) (keys_from (x.key ∷ seen) xs))))))
    (cases_Bool (list_any (bytes_eq x.key) seen))

-- keys that were seen are no new ones
seen_is_old : (seen : List (List ℕ)) (xs : Fields) (s : List ℕ) → list_any (bytes_eq s) seen ≡ true → list_any (bytes_eq s) (keys_from seen xs) ≡ false
seen_is_old seen [] s h = refl
seen_is_old seen (x ∷ xs) s h = ⊎_elim
    (λ (is : list_any (bytes_eq x.key) seen ≡ true). rw (is) (seen_is_old seen xs s h))
    (λ (new : list_any (bytes_eq x.key) seen ≡ false). rw (new) (both_not (bytes_eq s x.key) (list_any (bytes_eq s) (keys_from (x.key ∷ seen) xs))
    (not_this x.key new) (seen_is_old (x.key ∷ seen) xs s (or_too (bytes_eq s x.key) (list_any (bytes_eq s) seen) h))))
    (cases_Bool (list_any (bytes_eq x.key) seen))
  where
    both_not : (a b : Bool) → a ≡ false → b ≡ false → a || b ≡ false
    both_not a b p q = rw (p) q

    or_too : (a b : Bool) → b ≡ true → a || b ≡ true
    or_too true b q = refl
    or_too false b q = q

    not_this : (k : List ℕ) → list_any (bytes_eq k) seen ≡ false → bytes_eq s k ≡ false
    not_this k new = ⊎_elim
        (λ (is : bytes_eq s k ≡ true). absurd (true≢false (sym h ∙ (any_of_same s k seen is ∙ new))))
        (λ (unlike : bytes_eq s k ≡ false). unlike)
        (cases_Bool (bytes_eq s k))

abbrev pub AreApart : List (List ℕ) → Type 0
AreApart [] = Unit {0}
AreApart (k ∷ keys) = (list_any (bytes_eq k) keys ≡ false) × AreApart keys

pub keys_apart : (seen : List (List ℕ)) (xs : Fields) → AreApart (keys_from seen xs)
keys_apart seen [] = tt
keys_apart seen (x ∷ xs) = ⊎_elim
    (λ (is : list_any (bytes_eq x.key) seen ≡ true). subst AreApart (sym (passed is)) (keys_apart seen xs))
    (λ (new : list_any (bytes_eq x.key) seen ≡ false). subst AreApart (sym (taken new)) (seen_is_old (x.key ∷ seen) xs x.key (ap (λ (b : Bool). b || list_any (bytes_eq x.key) seen) (bytes_same x.key)), keys_apart (x.key ∷ seen) xs))
    (cases_Bool (list_any (bytes_eq x.key) seen))
  where
    passed : list_any (bytes_eq x.key) seen ≡ true → keys_from seen (x ∷ xs) ≡ keys_from seen xs
    passed is = rw (is) refl

    taken : list_any (bytes_eq x.key) seen ≡ false → keys_from seen (x ∷ xs) ≡ x.key ∷ keys_from (x.key ∷ seen) xs
    taken new = rw (new) refl

-- a key that is no key of fields has none
pub none_of_key : (seen : List (List ℕ)) (xs : List NumberedField) (key : List ℕ) → list_any (bytes_eq key) seen ≡ false → list_any (bytes_eq key) (keys_from seen (map field_alone xs)) ≡ false → filter (λ f. has_key key f.0) xs ≡ []
none_of_key seen [] key old h = refl
none_of_key seen (x ∷ xs) key old h = ⊎_elim
    (λ (is : list_any (bytes_eq x.0.key) seen ≡ true). rw (other_key is) (none_of_key seen xs key old (sym (passed is) ∙ h)))
    (λ (new : list_any (bytes_eq x.0.key) seen ≡ false).
    let all : bytes_eq key x.0.key || list_any (bytes_eq key) (keys_from (x.0.key ∷ seen) (map field_alone xs)) ≡ false = sym (taken new) ∙ h in
    let here : bytes_eq key x.0.key ≡ false = or_left (bytes_eq key x.0.key) (list_any (bytes_eq key) (keys_from (x.0.key ∷ seen) (map field_alone xs))) all in
    rw (swapped_eq key x.0.key here) (none_of_key (x.0.key ∷ seen) xs key (ap (λ (b : Bool). b || list_any (bytes_eq key) seen) here ∙ old) (or_right (bytes_eq key x.0.key) (list_any (bytes_eq key) (keys_from (x.0.key ∷ seen) (map field_alone xs))) all)))
    (cases_Bool (list_any (bytes_eq x.0.key) seen))
  where
    passed : list_any (bytes_eq x.0.key) seen ≡ true → list_any (bytes_eq key) (keys_from seen (map field_alone (x ∷ xs))) ≡ list_any (bytes_eq key) (keys_from seen (map field_alone xs))
    passed is = rw (is) refl

    taken : list_any (bytes_eq x.0.key) seen ≡ false → list_any (bytes_eq key) (keys_from seen (map field_alone (x ∷ xs))) ≡ bytes_eq key x.0.key || list_any (bytes_eq key) (keys_from (x.0.key ∷ seen) (map field_alone xs))
    taken new = rw (new) refl

    other_key : list_any (bytes_eq x.0.key) seen ≡ true → bytes_eq x.0.key key ≡ false
    other_key is = ⊎_elim
        (λ (same : bytes_eq x.0.key key ≡ true). absurd (true≢false (sym is ∙ (any_of_same x.0.key key seen same ∙ old))))
        (λ (unlike : bytes_eq x.0.key key ≡ false). unlike)
        (cases_Bool (bytes_eq x.0.key key))

-- ---- places

place_beyond : (key k : List ℕ) (keys : List (List ℕ)) → bytes_eq k key ≡ false → place_in key (k ∷ keys) ≡ option_map suc (place_in key keys)
place_beyond key k keys unlike = rw (unlike) refl

place_first : (key k : List ℕ) (keys : List (List ℕ)) → bytes_eq k key ≡ true → place_in key (k ∷ keys) ≡ Some 0
place_first key k keys is = rw (is) refl

placed : (key : List ℕ) (keys : List (List ℕ)) (p : ℕ) → place_in key keys ≡ Some p → list_any (bytes_eq key) keys ≡ true
placed key [] p h = absurd (none-some p h)
placed key (k ∷ keys) p h = ⊎_elim
    (λ (is : bytes_eq k key ≡ true). ap (λ (b : Bool). b || list_any (bytes_eq key) keys) (ap (λ (n : List ℕ). bytes_eq key n) ((bytes_eq-Decides k key).0 is) ∙ bytes_same key))
    (λ (unlike : bytes_eq k key ≡ false). ap (λ (b : Bool). b || list_any (bytes_eq key) keys) (swapped_eq k key unlike) ∙ later (λ q found. placed key keys q found) (place_in key keys) refl unlike)
    (cases_Bool (bytes_eq k key))
  where
    later : ((q : ℕ) → place_in key keys ≡ Some q → list_any (bytes_eq key) keys ≡ true) → (o : Option ℕ) → place_in key keys ≡ o → bytes_eq k key ≡ false → list_any (bytes_eq key) keys ≡ true
    later again None none unlike = absurd (none-some p (sym (ap (option_map suc) none) ∙ (sym (place_beyond key k keys unlike) ∙ h)))
    later again (Some q) some unlike = again q some

unplaced : (key : List ℕ) (keys : List (List ℕ)) → place_in key keys ≡ None → list_any (bytes_eq key) keys ≡ false
unplaced key [] h = refl
unplaced key (k ∷ keys) h = ⊎_elim
    (λ (is : bytes_eq k key ≡ true). absurd (none-some 0 (sym h ∙ here is)))
    (λ (unlike : bytes_eq k key ≡ false). ap (λ (b : Bool). b || list_any (bytes_eq key) keys) (swapped_eq k key unlike) ∙ unplaced key keys (still (place_in key keys) refl unlike))
    (cases_Bool (bytes_eq k key))
  where
    here : bytes_eq k key ≡ true → place_in key (k ∷ keys) ≡ Some 0
    here is = rw (is) refl

    beyond : bytes_eq k key ≡ false → place_in key (k ∷ keys) ≡ option_map suc (place_in key keys)
    beyond unlike = rw (unlike) refl

    still : (o : Option ℕ) → place_in key keys ≡ o → bytes_eq k key ≡ false → place_in key keys ≡ None
    still None none unlike = none
    still (Some q) some unlike = absurd (none-some (suc q) (sym h ∙ (beyond unlike ∙ ap (option_map suc) some)))

-- ---- a group with a field more

abbrev Of : List NumberedField → List ℕ → List NumberedField
Of fs key = filter (λ f. has_key key f.0) fs

not_here : (fs : List NumberedField) (f : NumberedField) (k : List ℕ) → bytes_eq f.0.key k ≡ false → Of (fs ++ (f ∷ [])) k ≡ Of fs k
not_here [] f k unlike = rw (unlike) refl
not_here (x ∷ fs) f k unlike = ⊎_elim
    (λ (is : bytes_eq x.0.key k ≡ true). rw (is) (ap (λ (g : List NumberedField). x ∷ g) (not_here fs f k unlike)))
    (λ (other : bytes_eq x.0.key k ≡ false). rw (other) (not_here fs f k unlike))
    (cases_Bool (bytes_eq x.0.key k))

same_elsewhere : (fs : List NumberedField) (f : NumberedField) (keys : List (List ℕ)) → list_any (bytes_eq f.0.key) keys ≡ false → map (Of (fs ++ (f ∷ []))) keys ≡ map (Of fs) keys
same_elsewhere fs f [] h = refl
same_elsewhere fs f (k ∷ keys) h =
    ap (λ (g : List NumberedField). g ∷ map (Of (fs ++ (f ∷ []))) keys) (not_here fs f k (or_left (bytes_eq f.0.key k) (list_any (bytes_eq f.0.key) keys) h))
    ∙ ap (λ (gs : List (List NumberedField)). Of fs k ∷ gs) (same_elsewhere fs f keys (or_right (bytes_eq f.0.key k) (list_any (bytes_eq f.0.key) keys) h))

more_here : (fs : List NumberedField) (f : NumberedField) (k : List ℕ) → bytes_eq f.0.key k ≡ true → Of (fs ++ (f ∷ [])) k ≡ Of fs k ++ (f ∷ [])
more_here [] f k is = rw (is) refl
more_here (x ∷ fs) f k is = ⊎_elim
    (λ (same : bytes_eq x.0.key k ≡ true). rw (same) (ap (λ (g : List NumberedField). x ∷ g) (more_here fs f k is)))
    (λ (other : bytes_eq x.0.key k ≡ false). rw (other) (more_here fs f k is))
    (cases_Bool (bytes_eq x.0.key k))

pub more_at : (fs : List NumberedField) (f : NumberedField) (keys : List (List ℕ)) (p : ℕ) → AreApart keys → place_in f.0.key keys ≡ Some p → map (Of (fs ++ (f ∷ []))) keys ≡ appended_at p f (map (Of fs) keys)
more_at fs f [] p apart h = absurd (none-some p h)
more_at fs f (k ∷ keys) p apart h = ⊎_elim (λ (is : bytes_eq k f.0.key ≡ true). here is)
    (λ (unlike : bytes_eq k f.0.key ≡ false). later (λ q found. more_at fs f keys q apart.1 found) unlike (place_in f.0.key keys) refl) (cases_Bool (bytes_eq k f.0.key))
  where
    here : bytes_eq k f.0.key ≡ true → map (Of (fs ++ (f ∷ []))) (k ∷ keys) ≡ appended_at p f (map (Of fs) (k ∷ keys))
    here is =
        let first : Some 0 ≡ Some p = sym (place_first f.0.key k keys is) ∙ h in
        let key : bytes_eq f.0.key k ≡ true = ap (λ (n : List ℕ). bytes_eq f.0.key n) ((bytes_eq-Decides k f.0.key).0 is) ∙ bytes_same f.0.key in
        ap (λ (g : List NumberedField). g ∷ map (Of (fs ++ (f ∷ []))) keys) (more_here fs f k key)
        ∙ (ap (λ (gs : List (List NumberedField)). (Of fs k ++ (f ∷ [])) ∷ gs) (same_elsewhere fs f keys (any_of_same f.0.key k keys key ∙ apart.0))
        ∙ ap (λ (n : ℕ). appended_at n f (map (Of fs) (k ∷ keys))) (same_Some 0 p first))

    later : ((q : ℕ) → place_in f.0.key keys ≡ Some q → map (Of (fs ++ (f ∷ []))) keys ≡ appended_at q f (map (Of fs) keys)) → bytes_eq k f.0.key ≡ false → (o : Option ℕ) → place_in f.0.key keys ≡ o
        → map (Of (fs ++ (f ∷ []))) (k ∷ keys) ≡ appended_at p f (map (Of fs) (k ∷ keys))
    later again unlike None found = absurd (none-some p (sym (ap (option_map suc) found) ∙ (sym (place_beyond f.0.key k keys unlike) ∙ h)))
    later again unlike (Some q) found =
        let next : Some (suc q) ≡ Some p = sym (ap (option_map suc) found) ∙ (sym (place_beyond f.0.key k keys unlike) ∙ h) in
        ap (λ (g : List NumberedField). g ∷ map (Of (fs ++ (f ∷ []))) keys) (not_here fs f k (swapped_eq k f.0.key unlike))
        ∙ (ap (λ (gs : List (List NumberedField)). Of fs k ∷ gs) (again q found)
        ∙ ap (λ (n : ℕ). appended_at n f (map (Of fs) (k ∷ keys))) (same_Some (suc q) p next))

-- ---- the groups of fields

keys_with : (fs : List NumberedField) (f : NumberedField) (b : Bool) → list_any (bytes_eq f.0.key) (keys_of (map field_alone fs)) ≡ b → keys_of (map field_alone (fs ++ (f ∷ []))) ≡ keys_of (map field_alone fs) ++ (if b then [] else f.0.key ∷ [])
keys_with fs f b is = ap keys_of (map_push field_alone fs f) ∙ (keys_push [] (map field_alone fs) f.0 ∙ ap (λ (c : Bool). keys_of (map field_alone fs) ++ (if c then [] else f.0.key ∷ [])) is)

pub group_longer : (fs : List NumberedField) (f : NumberedField) (p : ℕ) → place_in f.0.key (keys_of (map field_alone fs)) ≡ Some p → (numbered_by_key (fs ++ (f ∷ [])) ≡ appended_at p f (numbered_by_key fs)) × (keys_of (map field_alone (fs ++ (f ∷ []))) ≡ keys_of (map field_alone fs))
group_longer fs f p found =
    let keys : List (List ℕ) = keys_of (map field_alone fs) in
    let same : keys_of (map field_alone (fs ++ (f ∷ []))) ≡ keys = keys_with fs f true (placed f.0.key keys p found) ∙ append-nil keys in
    (ap (map (Of (fs ++ (f ∷ [])))) same ∙ more_at fs f keys p (keys_apart [] (map field_alone fs)) found, same)

pub group_new : (fs : List NumberedField) (f : NumberedField) → place_in f.0.key (keys_of (map field_alone fs)) ≡ None → (numbered_by_key (fs ++ (f ∷ [])) ≡ numbered_by_key fs ++ ((f ∷ []) ∷ [])) × (keys_of (map field_alone (fs ++ (f ∷ []))) ≡ keys_of (map field_alone fs) ++ (f.0.key ∷ []))
group_new fs f none =
    let keys : List (List ℕ) = keys_of (map field_alone fs) in
    let new : list_any (bytes_eq f.0.key) keys ≡ false = unplaced f.0.key keys none in
    let more : keys_of (map field_alone (fs ++ (f ∷ []))) ≡ keys ++ (f.0.key ∷ []) = keys_with fs f false new in (
      ap (map (Of (fs ++ (f ∷ [])))) more ∙ (map_push (Of (fs ++ (f ∷ []))) keys f.0.key
          ∙ (ap (λ (gs : List (List NumberedField)). gs ++ (Of (fs ++ (f ∷ [])) f.0.key ∷ [])) (same_elsewhere fs f keys new)
          ∙ ap (λ (g : List NumberedField). map (Of fs) keys ++ (g ∷ [])) (more_here fs f f.0.key (bytes_same f.0.key) ∙ ap (λ (g : List NumberedField). g ++ (f ∷ [])) (none_of_key [] fs f.0.key refl new)))),
      more,
    )

one_further : (n m : ℕ) → (if ltb (1 + n) (suc m) then Some (1 + n) else None) ≡ option_map suc (if ltb n m then Some n else None)
one_further n m = ⊎_elim
    (λ (less : n < m).
    let longer : 1 + n < suc m = omega (arith, less) in
    let next : 1 + n ≡ suc n = omega arith in
    rw (lt-ltb (1 + n) (suc m) longer, lt-ltb n m less) (ap Some next))
    (λ (past : m ≤ n).
    let longer : suc m ≤ 1 + n = omega (arith, past) in
    rw (le-ltb (1 + n) (suc m) longer, le-ltb n m past) refl)
    (cases_lt n m)

first_there : (m : ℕ) → if◌then◌else◌ {A = Option ℕ} (ltb 0 (suc m)) (Some 0) None ≡ Some 0
first_there m =
    let some : 0 < suc m = omega arith in
    rw (lt-ltb 0 (suc m) some) refl

-- a key is found where it stands
pub found_place : (key : List ℕ) (ks : List (Bor (List ℕ))) → position (λ k. bytes_eq key k.now) ks ≡ place_in key (map (λ k. k.now) ks)
found_place key [] = refl
found_place key (k ∷ ks) = ⊎_elim
    (λ (is : bytes_eq k.now key ≡ true). rw (is, turned_eq k.now key is) (first_there (length ks)))
    (λ (unlike : bytes_eq k.now key ≡ false). rw (unlike, swapped_eq k.now key unlike) (one_further (position_or_len (λ x. bytes_eq key x.now) ks) (length ks) ∙ ap (option_map suc) (found_place key ks)))
    (cases_Bool (bytes_eq k.now key))

pub put_longer : (fs : List NumberedField) (f : NumberedField) (old new : Groups) (p : ℕ) (key : List ℕ) → key ≡ f.0.key → place_in key (keys_grouped old) ≡ Some p → fields_grouped new ≡ appended_at p f (fields_grouped old) → keys_grouped new ≡ keys_grouped old → AreGrouped fs old → AreGrouped (fs ++ (f ∷ [])) new
put_longer fs f old new p key same there longer still g =
    let found : place_in f.0.key (keys_of (map field_alone fs)) ≡ Some p = ap (λ (ks : List (List ℕ)). place_in f.0.key ks) (sym g.keys) ∙ (ap (λ (n : List ℕ). place_in n (keys_grouped old)) (sym same) ∙ there) in
    let step = group_longer fs f p found in
    record { grouped = longer ∙ (ap (appended_at p f) g.grouped ∙ sym step.0); keys = still ∙ (g.keys ∙ sym step.1) }

-- a key that is new goes last, and its group with it
pub entry_new : (es more : List (Bor (List ℕ) × Vec Collected Global)) (k : Bor (List ℕ)) (g : Vec Collected Global) (f : Collected) → more ≡ es ++ (k, g) ∷ [] → g.items ≡ f ∷ []
    → (map numbered_group (values_of more) ≡ map numbered_group (values_of es) ++ ((numbered f ∷ []) ∷ [])) × (map (λ x. x.now) (keys_of_entries more) ≡ map (λ x. x.now) (keys_of_entries es) ++ (k.now ∷ []))
entry_new es more k g f last alone = (
  ap (λ xs. map numbered_group (values_of xs)) last ∙ (ap (map numbered_group) (map_push (λ e. e.1) es (k, g)) ∙ (map_push numbered_group (values_of es) g ∙ ap (λ (n : List Collected). map numbered_group (values_of es) ++ (map numbered n ∷ [])) alone)),
  ap (λ xs. map (λ x. x.now) (keys_of_entries xs)) last ∙ (ap (map (λ x. x.now)) (map_push (λ e. e.0) es (k, g)) ∙ map_push (λ x. x.now) (keys_of_entries es) k),
)

pub none_there : {X : Type 0} (o : Option X) → is_some o ≡ false → o ≡ None
none_there None none = refl
none_there (Some x) none = absurd (true≢false none)

pub put_new : (fs : List NumberedField) (f : Collected) (old new : Groups) (k : Bor (List ℕ)) (group : Vec Collected Global) → k.now ≡ (numbered f).0.key → place_in k.now (keys_grouped old) ≡ None → new.by_key.entries ≡ old.by_key.entries ++ (k, group) ∷ [] → group.items ≡ f ∷ [] → AreGrouped fs old → AreGrouped (fs ++ (numbered f ∷ [])) new
put_new fs f old new k group same there last alone g =
    let none : place_in (numbered f).0.key (keys_of (map field_alone fs)) ≡ None = ap (λ (ks : List (List ℕ)). place_in (numbered f).0.key ks) (sym g.keys) ∙ (ap (λ (n : List ℕ). place_in n (keys_grouped old)) (sym same) ∙ there) in
    let step = group_new fs (numbered f) none in
    let more = entry_new old.by_key.entries new.by_key.entries k group f last alone in
    record {
      grouped = more.0 ∙ (ap (λ (gs : List (List NumberedField)). gs ++ ((numbered f ∷ []) ∷ [])) g.grouped ∙ sym step.0);
      keys = more.1 ∙ (ap (λ (ks : List (List ℕ)). ks ++ (k.now ∷ [])) g.keys ∙ (ap (λ (n : List ℕ). keys_of (map field_alone fs) ++ (n ∷ [])) same ∙ sym step.1));
    }

pub grouped_none : (g : Groups) → g.by_key.entries ≡ [] → AreGrouped [] g
grouped_none g none = record { grouped = ap (λ es. map numbered_group (values_of es)) none; keys = ap (λ es. map (λ k. k.now) (keys_of_entries es)) none }

pub grouped_next : (fields : List Collected) (at : ℕ) (f : Collected) (g : Groups) → at < length fields → f ≡ get_or fields at f → AreGrouped (map numbered (take at fields) ++ (numbered f ∷ [])) g → AreGrouped (map numbered (take (at + 1) fields)) g
grouped_next fields at f g here is h = subst (λ (fs : List NumberedField). AreGrouped fs g)
    (sym (ap (map numbered) (take_more fields at f here ∙ ap (λ x. take at fields ++ (x ∷ [])) (sym is)) ∙ map_push numbered (take at fields) f)) h

pub grouped_all : (fields : List Collected) (at : ℕ) (g : Groups) → length fields ≤ at → AreGrouped (map numbered (take at fields)) g → fields_grouped g ≡ numbered_by_key (map numbered fields)
grouped_all fields at g past h = h.grouped ∙ ap (λ (fs : List Collected). numbered_by_key (map numbered fs)) (take_all at fields past)

-- a group that is written at a place
pub set_longer : (es : List (Bor (List ℕ) × Vec Collected Global)) (p : ℕ) (f : Collected) (g old : Vec Collected Global) → slice_get (values_of es) p ≡ Some old → g.items ≡ old.items ++ (f ∷ []) → map numbered_group (values_of (set_value_at es p g)) ≡ appended_at p (numbered f) (map numbered_group (values_of es))
set_longer [] p f g old h longer = absurd (none-some old h)
set_longer (e ∷ es) zero f g old h longer = ap (λ (y : List NumberedField). y ∷ map numbered_group (values_of es)) (ap (map numbered) (longer ∙ ap (λ (o : Vec Collected Global). o.items ++ (f ∷ [])) (sym (same_Some e.1 old h))) ∙ map_push numbered e.1.items f)
set_longer (e ∷ es) (suc p) f g old h longer = ap (λ (gs : List (List NumberedField)). numbered_group e.1 ∷ gs) (set_longer es p f g old h longer)

pub set_nothing : (es : List (Bor (List ℕ) × Vec Collected Global)) (p : ℕ) (f : NumberedField) → slice_get (values_of es) p ≡ None → map numbered_group (values_of es) ≡ appended_at p f (map numbered_group (values_of es))
set_nothing [] p f h = refl
set_nothing (e ∷ es) zero f h = absurd (none-some e.1 (sym h))
set_nothing (e ∷ es) (suc p) f h = ap (λ (gs : List (List NumberedField)). numbered_group e.1 ∷ gs) (set_nothing es p f h)

-- ---- groups have fields

abbrev pub IsFilled : List NumberedField → Type 0
IsFilled g = 0 < length g

pub all_filled : (groups : List (Vec Collected Global)) → Each IsFilled (map numbered_group groups) → All (λ g. 0 < length g.items) groups
all_filled [] h = λ k d less. absurd (no_less k less)
  where
    no_less : (n : ℕ) → n < 0 → ⊥
    no_less n h = omega arith
all_filled (g ∷ groups) h = All-cons (λ (x : Vec Collected Global). 0 < length x.items) g groups (subst (λ n. 0 < n) (length-map g.items numbered) h.0) (all_filled groups h.1)

longer_filled : (fs : List NumberedField) (x : NumberedField) (k : List ℕ) → IsFilled (Of fs k) → IsFilled (Of (x ∷ fs) k)
longer_filled fs x k h = ⊎_elim
    (λ (is : bytes_eq x.0.key k ≡ true). rw (is) (omega arith))
    (λ (unlike : bytes_eq x.0.key k ≡ false). rw (unlike) h)
    (cases_Bool (bytes_eq x.0.key k))

all_longer : (fs : List NumberedField) (x : NumberedField) (keys : List (List ℕ)) → Each IsFilled (map (Of fs) keys) → Each IsFilled (map (Of (x ∷ fs)) keys)
all_longer fs x [] h = tt
all_longer fs x (k ∷ keys) h = (longer_filled fs x k h.0, all_longer fs x keys h.1)

first_filled : (fs : List NumberedField) (x : NumberedField) → IsFilled (Of (x ∷ fs) x.0.key)
first_filled fs x = rw (bytes_same x.0.key) (omega arith)

pub keys_filled : (seen : List (List ℕ)) (fs : List NumberedField) → Each IsFilled (map (Of fs) (keys_from seen (map field_alone fs)))
keys_filled seen [] = tt
keys_filled seen (x ∷ fs) = ⊎_elim
    (λ (is : list_any (bytes_eq x.0.key) seen ≡ true). subst (λ ks. Each IsFilled (map (Of (x ∷ fs)) ks)) (sym (passed is)) (all_longer fs x (keys_from seen (map field_alone fs)) (keys_filled seen fs)))
    (λ (new : list_any (bytes_eq x.0.key) seen ≡ false). subst (λ ks. Each IsFilled (map (Of (x ∷ fs)) ks)) (sym (taken new)) (first_filled fs x, all_longer fs x (keys_from (x.0.key ∷ seen) (map field_alone fs)) (keys_filled (x.0.key ∷ seen) fs)))
    (cases_Bool (list_any (bytes_eq x.0.key) seen))
  where
    passed : list_any (bytes_eq x.0.key) seen ≡ true → keys_from seen (map field_alone (x ∷ fs)) ≡ keys_from seen (map field_alone fs)
    passed is = rw (is) refl

    taken : list_any (bytes_eq x.0.key) seen ≡ false → keys_from seen (map field_alone (x ∷ fs)) ≡ x.0.key ∷ keys_from (x.0.key ∷ seen) (map field_alone fs)
    taken new = rw (new) refl

-- without their numbers
pub alone_of_key : (key : List ℕ) (fs : List NumberedField) → map field_alone (Of fs key) ≡ fields_of_key key (map field_alone fs)
alone_of_key key [] = refl
alone_of_key key (f ∷ fs) = ⊎_elim
    (λ (is : bytes_eq f.0.key key ≡ true). rw (is) (ap (λ xs. f.0 ∷ xs) (alone_of_key key fs)))
    (λ (unlike : bytes_eq f.0.key key ≡ false). rw (unlike) (alone_of_key key fs))
    (cases_Bool (bytes_eq f.0.key key))
