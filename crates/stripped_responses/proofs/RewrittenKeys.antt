-- The keys of rewritten selections, and what stands under each of them.
use Rattle.std.proofs.Common.{◌≡◌, ◌⊎◌, inl, inr, ⊎_elim, ℕ, List, [], ◌∷◌, ◌++◌, map, filter, Bool, true, false, not, true≢false, ◌||◌, bytes_eq, Option, refl, sym, ap, ◌∙◌, subst}
use Rattle.std.specs.Prelude.{if◌then◌else◌}
use Rattle.std.specs.List.{list_any}
use Rattle.std.proofs.lemmas.Bool.{cases_Bool}
use Rattle.std.proofs.lemmas.Slice.Eq.{bytes_eq-Decides}
use Rattle.plan_model.specs.SelectedFields.{Setting, FieldCall, hands_at, is_asked}
use Rattle.plan_model.specs.Collecting.{CollectedField, collected, nesting}
use Rattle.plan_model.specs.Merging.{Position, keys_from, keys_of, has_key, fields_of_key, first_call, selections_below, fields_at, keys_at, fields_under, call_under, below_key}
use Rattle.stripped_responses.specs.Stripping.{AreFree, AreRewritten, IsRewritten, HasNoAlias}
use Rattle.stripped_responses.proofs.RewrittenFields.{Each, typename_call, IsAddedUnderAlias, is_own, IsFreeField, e', rewritten_field, all_mine, all_theirs, free_fields, own_fields, added_fields, same_nesting}
use Rattle.stripped_responses.proofs.SameCalls.{same_hands}

module _ (alias : List ℕ) where
  -- the keys that are not the alias
  abbrev pub own_keys : List (List ℕ) → List (List ℕ)
  own_keys [] = []
  own_keys (k ∷ ks) = if bytes_eq k alias then own_keys ks else k ∷ own_keys ks

  apart : (a k : List ℕ) → bytes_eq a alias ≡ true → bytes_eq k alias ≡ false → bytes_eq a k ≡ false
  apart a k is isnt = ⊎_elim
      (λ (same : bytes_eq a k ≡ true). absurd (true≢false (sym ((bytes_eq-Decides k alias).1 (sym ((bytes_eq-Decides a k).0 same) ∙ (bytes_eq-Decides a alias).0 is)) ∙ isnt)))
      (λ (other : bytes_eq a k ≡ false). other)
      (cases_Bool (bytes_eq a k))

  pub symmetric : (a k : List ℕ) → bytes_eq a k ≡ false → bytes_eq k a ≡ false
  symmetric a k isnt = ⊎_elim
      (λ (same : bytes_eq k a ≡ true). absurd (true≢false (sym ((bytes_eq-Decides a k).1 (sym ((bytes_eq-Decides k a).0 same))) ∙ isnt)))
      (λ (other : bytes_eq k a ≡ false). other)
      (cases_Bool (bytes_eq k a))

  -- the same keys were seen, the alias aside
  abbrev SeenAlike : List (List ℕ) → List (List ℕ) → Type 0
  SeenAlike seen more = (k : List ℕ) → bytes_eq k alias ≡ false → list_any (bytes_eq k) more ≡ list_any (bytes_eq k) seen

  seen_both : (seen more : List (List ℕ)) (a : List ℕ) → SeenAlike seen more → SeenAlike (a ∷ seen) (a ∷ more)
  seen_both seen more a alike k isnt = ap (λ (b : Bool). bytes_eq k a || b) (alike k isnt)

  seen_more : (seen more : List (List ℕ)) (a : List ℕ) → bytes_eq a alias ≡ true → SeenAlike seen more → SeenAlike seen (a ∷ more)
  seen_more seen more a is alike k isnt = ap (λ (b : Bool). b || list_any (bytes_eq k) more) (symmetric a k (apart a k is isnt)) ∙ alike k isnt

  keys_own : (seen more : List (List ℕ)) (fs : List CollectedField) → SeenAlike seen more → own_keys (keys_from more fs) ≡ keys_from seen (filter (is_own alias) fs)
  keys_own seen more [] alike = refl
  keys_own seen more (f ∷ fs) alike = ⊎_elim
      (λ (is : bytes_eq f.key alias ≡ true). rw (is) (⊎_elim
      (λ (met : list_any (bytes_eq f.key) more ≡ true). rw (met) (keys_own seen more fs alike))
      (λ (new : list_any (bytes_eq f.key) more ≡ false). rw (new) (rw (is) (keys_own seen (f.key ∷ more) fs (seen_more seen more f.key is alike))))
      (cases_Bool (list_any (bytes_eq f.key) more))))
      (λ (isnt : bytes_eq f.key alias ≡ false). rw (isnt) (⊎_elim
      (λ (met : list_any (bytes_eq f.key) more ≡ true). rw (met) (rw (sym (alike f.key isnt) ∙ met) (keys_own seen more fs alike)))
      (λ (new : list_any (bytes_eq f.key) more ≡ false). rw (new) (rw (sym (alike f.key isnt) ∙ new) (rw (isnt) (ap (λ (ks : List (List ℕ)). f.key ∷ ks) (keys_own (f.key ∷ seen) (f.key ∷ more) fs (seen_both seen more f.key alike))))))
      (cases_Bool (list_any (bytes_eq f.key) more))))
      (cases_Bool (bytes_eq f.key alias))

  -- the fields of a key other than the alias are the client's own
  pub own_of_key : (k : List ℕ) (fs : List CollectedField) → bytes_eq k alias ≡ false → fields_of_key k fs ≡ fields_of_key k (filter (is_own alias) fs)
  own_of_key k [] isnt = refl
  own_of_key k (f ∷ fs) isnt = ⊎_elim
      (λ (is : bytes_eq f.key alias ≡ true). rw (is) (rw (apart f.key k is isnt) (own_of_key k fs isnt)))
      (λ (other : bytes_eq f.key alias ≡ false). rw (other) (ap (λ (gs : List CollectedField). if bytes_eq f.key k then f ∷ gs else gs) (own_of_key k fs isnt)))
      (cases_Bool (bytes_eq f.key alias))

  -- ---- the fields of the alias were all added

  call_of_alias : (k : List ℕ) (fs : List CollectedField) → Each (IsAddedUnderAlias alias) fs → bytes_eq k alias ≡ true → list_any (has_key k) fs ≡ true → first_call (fields_of_key k fs) ≡ typename_call
  call_of_alias k [] added is has = absurd (true≢false (sym has))
  call_of_alias k (f ∷ fs) added is has = ⊎_elim
      (λ (here : bytes_eq f.key k ≡ true). rw (here) (added.0 ((bytes_eq-Decides f.key alias).1 ((bytes_eq-Decides f.key k).0 here ∙ (bytes_eq-Decides k alias).0 is))))
      (λ (later : bytes_eq f.key k ≡ false). rw (later) (call_of_alias k fs added.1 is (sym (ap (λ (b : Bool). b || list_any (has_key k) fs) later) ∙ has)))
      (cases_Bool (bytes_eq f.key k))

  -- Under the alias stands the name of the type.
  abbrev pub IsTypename : List CollectedField → List ℕ → Type 0
  IsTypename fs k = bytes_eq k alias ≡ true → first_call (fields_of_key k fs) ≡ typename_call

  or_later : (b c : Bool) → c ≡ true → (b || c) ≡ true
  or_later true c h = refl
  or_later false c h = h

  has_own : (f : CollectedField) (fs : List CollectedField) → list_any (has_key f.key) (f ∷ fs) ≡ true
  has_own f fs = rw ((bytes_eq-Decides f.key f.key).1 refl) refl

  -- each key is that of some field
  keys_in : (all : List CollectedField) (seen : List (List ℕ)) (fs : List CollectedField) → ((k : List ℕ) → list_any (has_key k) fs ≡ true → list_any (has_key k) all ≡ true) → Each (λ (k : List ℕ). list_any (has_key k) all ≡ true) (keys_from seen fs)
  keys_in all seen [] among = tt
  keys_in all seen (f ∷ fs) among = ⊎_elim
      (λ (met : list_any (bytes_eq f.key) seen ≡ true). rw (met) (keys_in all seen fs (λ k has. among k (or_later (bytes_eq f.key k) (list_any (has_key k) fs) has))))
      (λ (new : list_any (bytes_eq f.key) seen ≡ false). rw (new) (among f.key (has_own f fs), keys_in all (f.key ∷ seen) fs (λ k has. among k (or_later (bytes_eq f.key k) (list_any (has_key k) fs) has))))
      (cases_Bool (list_any (bytes_eq f.key) seen))

  each_typename : (all : List CollectedField) (ks : List (List ℕ)) → Each (IsAddedUnderAlias alias) all → Each (λ (k : List ℕ). list_any (has_key k) all ≡ true) ks → Each (IsTypename all) ks
  each_typename all [] added has = tt
  each_typename all (k ∷ ks) added has = (λ is. call_of_alias k all added is has.0, each_typename all ks added has.1)

module _ (alias : List ℕ) (e : Setting) where
  keys_map : (seen : List (List ℕ)) (fs : List CollectedField) → keys_from seen (map (rewritten_field alias e) fs) ≡ keys_from seen fs
  keys_map seen [] = refl
  keys_map seen (f ∷ fs) =
      ap (λ (zs : List (List ℕ)). if list_any (bytes_eq f.key) seen then zs else f.key ∷ keys_from (f.key ∷ seen) (map (rewritten_field alias e) fs)) (keys_map seen fs)
      ∙ ap (λ (zs : List (List ℕ)). if list_any (bytes_eq f.key) seen then keys_from seen fs else f.key ∷ zs) (keys_map (f.key ∷ seen) fs)

  pub map_of_key : (k : List ℕ) (fs : List CollectedField) → fields_of_key k (map (rewritten_field alias e) fs) ≡ map (rewritten_field alias e) (fields_of_key k fs)
  map_of_key k [] = refl
  map_of_key k (f ∷ fs) = ⊎_elim
      (λ (here : bytes_eq f.key k ≡ true). rw (here) (ap (λ (zs : List CollectedField). rewritten_field alias e f ∷ zs) (map_of_key k fs)))
      (λ (other : bytes_eq f.key k ≡ false). rw (other) (map_of_key k fs))
      (cases_Bool (bytes_eq f.key k))

  pub map_first : (fs : List CollectedField) → first_call (map (rewritten_field alias e) fs) ≡ first_call fs
  map_first [] = refl
  map_first (f ∷ fs) = refl

  below_map : (fs : List CollectedField) → AreRewritten alias e.schema (map (selections_below e) fs) (map (selections_below (e' alias e)) (map (rewritten_field alias e) fs))
  below_map [] = tt
  below_map (f ∷ fs) = ((is_asked e.schema f.parent f.call, refl), below_map fs)

  free_below : (fs : List CollectedField) → Each (IsFreeField alias) fs → AreFree alias (map (selections_below e) fs)
  free_below [] free = tt
  free_below (f ∷ fs) free = (free.0.1, free_below fs free.1)

  free_of_key : (k : List ℕ) (fs : List CollectedField) → Each (IsFreeField alias) fs → Each (IsFreeField alias) (fields_of_key k fs)
  free_of_key k [] free = tt
  free_of_key k (f ∷ fs) free = ⊎_elim
      (λ (here : bytes_eq f.key k ≡ true). rw (here) (free.0, free_of_key k fs free.1))
      (λ (other : bytes_eq f.key k ≡ false). rw (other) (free_of_key k fs free.1))
      (cases_Bool (bytes_eq f.key k))

  module _ (T : ℕ) where
    -- what holds between the fields of a position and those of its rewritten one
    pub record Between (p q : Position) : Type 0 where
      pub keys : own_keys alias (keys_at (e' alias e) T q) ≡ keys_at e T p
      pub typenames : Each (IsTypename alias (fields_at (e' alias e) T q)) (keys_at (e' alias e) T q)
      pub calls : (k : List ℕ) → bytes_eq k alias ≡ false → call_under (e' alias e) T k q ≡ call_under e T k p
      pub below : (k : List ℕ) → bytes_eq k alias ≡ false → IsRewritten alias e.schema (below_key e T k p) (below_key (e' alias e) T k q)
      pub free : (k : List ℕ) → HasNoAlias alias e (below_key e T k p)

    -- the fields of a rewritten position, collected as deep as those of the client's
    pub fields_alike : (q : Position) → fields_at (e' alias e) T q ≡ all_theirs alias e T (nesting e) q.selections
    unfolding collected
    fields_alike q = ap (λ (depth : ℕ). all_theirs alias e T depth q.selections) (same_nesting alias e T)

    pub own_fields_at : (p : Position) → fields_at e T p ≡ all_mine alias e T (nesting e) p.selections
    unfolding collected
    own_fields_at p = refl

    pub between : (p q : Position) → HasNoAlias alias e p → IsRewritten alias e.schema p q → Between p q
    between p q none r =
        let mine : List CollectedField = fields_at e T p in
        let theirs : List CollectedField = fields_at (e' alias e) T q in
        let free : Each (IsFreeField alias) mine = subst (Each (IsFreeField alias)) (sym (own_fields_at p)) (free_fields alias e T (nesting e) p.selections none.fragments none.own) in
        let own : filter (is_own alias) theirs ≡ map (rewritten_field alias e) mine =
        ap (filter (is_own alias)) (fields_alike q) ∙ (own_fields alias e T (nesting e) p.selections q.selections none.fragments none.own r.selections ∙ ap (map (rewritten_field alias e)) (sym (own_fields_at p))) in
        let added : Each (IsAddedUnderAlias alias) theirs = subst (Each (IsAddedUnderAlias alias)) (sym (fields_alike q)) (added_fields alias e T (nesting e) p.selections q.selections none.fragments none.own r.selections) in
        let under : (k : List ℕ) → bytes_eq k alias ≡ false → fields_of_key k theirs ≡ map (rewritten_field alias e) (fields_of_key k mine) = (λ k isnt. own_of_key alias k theirs isnt ∙ (ap (fields_of_key k) own ∙ map_of_key k mine)) in
        record {
          keys = keys_own alias [] [] theirs (λ k isnt. refl) ∙ (ap keys_of own ∙ keys_map [] mine);
          typenames = each_typename alias theirs (keys_of theirs) added (keys_in alias theirs [] theirs (λ k has. has));
          calls = λ k isnt. ap first_call (under k isnt) ∙ map_first (fields_of_key k mine);
          below = λ k isnt. record {
            selections = subst (λ (fs : List CollectedField). AreRewritten alias e.schema (map (selections_below e) (fields_of_key k mine)) (map (selections_below (e' alias e)) fs)) (sym (under k isnt)) (below_map (fields_of_key k mine));
            handed = ap (hands_at (e' alias e) T) (ap first_call (under k isnt) ∙ map_first (fields_of_key k mine)) ∙ same_hands alias e T (first_call (fields_of_key k mine));
          };
          free = λ k. record { own = free_below (fields_of_key k mine) (free_of_key k mine free); fragments = none.fragments };
        }
