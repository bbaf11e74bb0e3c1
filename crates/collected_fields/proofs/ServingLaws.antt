-- Fields in whose place others stand: one list behind another, alone, and in the order of their keys.
use Rattle.std.proofs.Common.{◌≡◌, inl, inr, ⊎_elim, ℕ, ◌<◌, length, List, [], ◌∷◌, ◌++◌, map, flat_map, true, false, bytes_eq, refl, sym, ap, ◌∙◌, subst, append-nil, arith}
use Rattle.std.specs.Prelude.{All}
use Rattle.std.proofs.lemmas.Bool.{cases_Bool}
use Rattle.std.proofs.lemmas.List.{map-append}
use Rattle.std.proofs.lemmas.Grind.{flat_map-append}
use Rattle.std.proofs.lemmas.List.Elements.{filter-append, All-head, All-tail}
use Rattle.schema_model.specs.SchemaData.{SchemaData}
use Rattle.plan_model.specs.SelectedFields.{Setting}
use Rattle.plan_model.specs.Collecting.{CollectedField, WrittenSelections}
use Rattle.plan_model.specs.Merging.{keys_of, has_key, fields_of_key, selections_below}
use Rattle.plan_model.specs.Repeats.{LeavesOutRepeats}
use Rattle.plan_model.specs.Likeness.{Thins, LooksLike, AreLike}
use Rattle.plan_model.proofs.Thinning.{in_two, seen_more}
use Rattle.plan_model.proofs.LikeLists.{more_seen, one_behind, filtered_like, twice_like}
use Rattle.plan_model.proofs.MarkedNodes.{same_keys_like}
use Rattle.collected_fields.specs.Walks.{NumberedField, field_alone, numbered_of_key, numbered_by_key}
use Rattle.collected_fields.specs.Serving.{number_alone, Serve}
use Rattle.collected_fields.specs.Groups.{GroupData, AreGroupsOf}
use Rattle.collected_fields.proofs.GroupLaws.{alone_of_key}
use Rattle.collected_fields.proofs.KeyLaws.{keys_joined, by_keys, same_by_keys, same_keys_by_keys, HaveKey, have_key}
use Rattle.collected_fields.proofs.WalkLaws.{thinned_twice}

-- ---- fields that are like others

pub like_itself : (s : SchemaData) (f : CollectedField) → LooksLike s f f
like_itself s f = record { key = refl; name = refl; given = λ values. refl; asked = refl }

pub alike_too : (s : SchemaData) (f g h : CollectedField) → LooksLike s f g → LooksLike s g h → LooksLike s f h
alike_too s f g h first second = record { key = first.key ∙ second.key; name = first.name ∙ second.name; given = λ values. first.given values ∙ second.given values; asked = first.asked ∙ second.asked }

pub still_like : (s : SchemaData) (xs ys zs : List CollectedField) → AreLike s xs ys → AreLike s ys zs → AreLike s xs zs
still_like s xs ys zs a b = twice_like (LooksLike s) (LooksLike s) (LooksLike s) (alike_too s) [] [] xs ys zs (λ x h. absurd h) a b

pub like_joined : (s : SchemaData) (xs ys us vs : List CollectedField) → AreLike s xs ys → AreLike s us vs → AreLike s (xs ++ us) (ys ++ vs)
like_joined s xs ys us vs a b = one_behind (LooksLike s) [] xs ys us vs a (more_seen (LooksLike s) [] ys us vs (λ x h. absurd h) b)

pub same_keys_of_like : (s : SchemaData) (xs ys : List CollectedField) → AreLike s xs ys → keys_of xs ≡ keys_of ys
same_keys_of_like s xs ys a = same_keys_like (λ f. f) (LooksLike s) (λ f g r. r.key) xs ys a ∙ ap keys_of (itself ys)
  where
    itself : (zs : List CollectedField) → map (λ f. f) zs ≡ zs
    itself [] = refl
    itself (z ∷ zs) = ap (λ us. z ∷ us) (itself zs)

pub like_of_key : (s : SchemaData) (key : List ℕ) (xs ys : List CollectedField) → AreLike s xs ys → AreLike s (fields_of_key key xs) (fields_of_key key ys)
like_of_key s key xs ys a = filtered_like (LooksLike s) (has_key key) (has_key key) (λ f g r. ap (λ (k : List ℕ). bytes_eq k key) r.key) [] xs ys a

pub have_key_like : (s : SchemaData) (key : List ℕ) (seen xs ys : List CollectedField) → HaveKey key xs → Thins (LooksLike s) seen xs ys → HaveKey key ys
have_key_like s key seen [] [] h t = tt
have_key_like s key seen [] (y ∷ ys) h t = absurd t
have_key_like s key seen (x ∷ xs) [] h t = tt
have_key_like s key seen (x ∷ xs) (y ∷ ys) h (inl stays) = (sym stays.0.key ∙ h.0, have_key_like s key (y ∷ seen) xs ys h.1 stays.1)
have_key_like s key seen (x ∷ xs) (y ∷ ys) h (inr goes) = have_key_like s key seen xs (y ∷ ys) h.1 goes.1

pub filled_too : (s : SchemaData) (xs ys : List CollectedField) → AreLike s xs ys → 0 < length xs → 0 < length ys
filled_too s [] ys a h = absurd (none_less h)
  where
    none_less : 0 < 0 → ⊥
    none_less h = omega arith
filled_too s (x ∷ xs) [] a h = absurd a.0
filled_too s (x ∷ xs) (y ∷ ys) a h = omega arith

-- ---- lists of repeats

pub thinned_joined : {A : Type 0} (xs ys us vs : List A) → LeavesOutRepeats xs ys → LeavesOutRepeats us vs → LeavesOutRepeats (xs ++ us) (ys ++ vs)
thinned_joined xs ys us vs a b = in_two [] xs ys us vs a (seen_more [] ys us vs (λ x h. absurd h) b)

-- ---- what serves

module _ (e : Setting) (meaning : ℕ → List WrittenSelections) where
  abbrev below_of : List NumberedField → List WrittenSelections
  below_of ns = flat_map meaning (map number_alone ns)

  pub serve_none : Serve e meaning [] []
  serve_none = record { keys = refl; like = λ key. tt; below = λ key. tt }

  pub serve_joined : (fs gs : List CollectedField) (ns ms : List NumberedField) → Serve e meaning fs ns → Serve e meaning gs ms → Serve e meaning (fs ++ gs) (ns ++ ms)
  serve_joined fs gs ns ms first second = record {
    keys = keys_joined fs gs (map field_alone ns) (map field_alone ms) first.keys second.keys ∙ ap keys_of (sym (map-append field_alone ns ms));
    like = λ key. subst (λ xs. AreLike e.schema xs (map field_alone (numbered_of_key key (ns ++ ms)))) (sym (filter-append (has_key key) fs gs))
        (subst (λ ys. AreLike e.schema (fields_of_key key fs ++ fields_of_key key gs) ys) (sym (ap (map field_alone) (of_both key) ∙ map-append field_alone (numbered_of_key key ns) (numbered_of_key key ms)))
        (like_joined e.schema (fields_of_key key fs) (map field_alone (numbered_of_key key ns)) (fields_of_key key gs) (map field_alone (numbered_of_key key ms)) (first.like key) (second.like key)));
    below = λ key. subst (λ xs. LeavesOutRepeats (map (selections_below e) xs) (below_of (numbered_of_key key (ns ++ ms)))) (sym (filter-append (has_key key) fs gs))
        (subst (λ xs. LeavesOutRepeats xs (below_of (numbered_of_key key (ns ++ ms)))) (sym (map-append (selections_below e) (fields_of_key key fs) (fields_of_key key gs)))
        (subst (λ ys. LeavesOutRepeats (map (selections_below e) (fields_of_key key fs) ++ map (selections_below e) (fields_of_key key gs)) ys)
        (sym (ap below_of (of_both key) ∙ (ap (flat_map meaning) (map-append number_alone (numbered_of_key key ns) (numbered_of_key key ms)) ∙ flat_map-append meaning (map number_alone (numbered_of_key key ns)) (map number_alone (numbered_of_key key ms)))))
        (thinned_joined (map (selections_below e) (fields_of_key key fs)) (below_of (numbered_of_key key ns)) (map (selections_below e) (fields_of_key key gs)) (below_of (numbered_of_key key ms)) (first.below key) (second.below key))));
  }
    where
      of_both : (key : List ℕ) → numbered_of_key key (ns ++ ms) ≡ numbered_of_key key ns ++ numbered_of_key key ms
      of_both key = filter-append (λ (f : NumberedField). has_key key f.0) ns ms

  -- a field with the number of its own selections
  pub serve_one : (f : CollectedField) (number : ℕ) → meaning number ≡ selections_below e f ∷ [] → Serve e meaning (f ∷ []) ((f, number) ∷ [])
  serve_one f number is = record {
    keys = refl;
    like = λ key. ⊎_elim
        (λ (here : has_key key f ≡ true). rw (here) (inl (like_itself e.schema f, tt)))
        (λ (other : has_key key f ≡ false). rw (other) tt)
        (cases_Bool (has_key key f));
    below = λ key. ⊎_elim
        (λ (here : has_key key f ≡ true). rw (here) (subst (λ ws. LeavesOutRepeats (selections_below e f ∷ []) ws) (sym (append-nil (meaning number) ∙ is)) (inl (refl, tt))))
        (λ (other : has_key key f ≡ false). rw (other) tt)
        (cases_Bool (has_key key f));
  }

  -- ---- the fields of a key

  numbered_all : (key : List ℕ) (ns : List NumberedField) → HaveKey key (map field_alone ns) → (k : List ℕ) → bytes_eq key k ≡ true → numbered_of_key k ns ≡ ns
  numbered_all key [] h k is = refl
  numbered_all key (n ∷ ns) h k is = rw (ap (λ (q : List ℕ). bytes_eq q k) h.0 ∙ is) (ap (λ ms. n ∷ ms) (numbered_all key ns h.1 k is))

  numbered_none : (key : List ℕ) (ns : List NumberedField) → HaveKey key (map field_alone ns) → (k : List ℕ) → bytes_eq key k ≡ false → numbered_of_key k ns ≡ []
  numbered_none key [] h k unlike = refl
  numbered_none key (n ∷ ns) h k unlike = rw (ap (λ (q : List ℕ). bytes_eq q k) h.0 ∙ unlike) (numbered_none key ns h.1 k unlike)

  all_of_key : (key : List ℕ) (fs : List CollectedField) → HaveKey key fs → (k : List ℕ) → bytes_eq key k ≡ true → fields_of_key k fs ≡ fs
  all_of_key key [] h k is = refl
  all_of_key key (f ∷ fs) h k is = rw (ap (λ (q : List ℕ). bytes_eq q k) h.0 ∙ is) (ap (λ gs. f ∷ gs) (all_of_key key fs h.1 k is))

  none_of_this : (key : List ℕ) (fs : List CollectedField) → HaveKey key fs → (k : List ℕ) → bytes_eq key k ≡ false → fields_of_key k fs ≡ []
  none_of_this key [] h k unlike = refl
  none_of_this key (f ∷ fs) h k unlike = rw (ap (λ (q : List ℕ). bytes_eq q k) h.0 ∙ unlike) (none_of_this key fs h.1 k unlike)

  pub serve_key : (key : List ℕ) (fs : List CollectedField) (ns : List NumberedField) → HaveKey key fs → AreLike e.schema fs (map field_alone ns) → LeavesOutRepeats (map (selections_below e) fs) (below_of ns) → Serve e meaning fs ns
  serve_key key fs ns h like below = record {
    keys = same_keys_of_like e.schema fs (map field_alone ns) like;
    like = λ k. subst (λ ys. AreLike e.schema (fields_of_key k fs) ys) (sym (alone_of_key k ns)) (like_of_key e.schema k fs (map field_alone ns) like);
    below = λ k. ⊎_elim
        (λ (is : bytes_eq key k ≡ true). subst (λ xs. LeavesOutRepeats (map (selections_below e) xs) (below_of (numbered_of_key k ns))) (sym (all_of_key key fs h k is))
        (subst (λ ms. LeavesOutRepeats (map (selections_below e) fs) (below_of ms)) (sym (numbered_all key ns ours k is)) below))
        (λ (unlike : bytes_eq key k ≡ false). subst (λ xs. LeavesOutRepeats (map (selections_below e) xs) (below_of (numbered_of_key k ns))) (sym (none_of_this key fs h k unlike))
        (subst (λ ms. LeavesOutRepeats [] (below_of ms)) (sym (numbered_none key ns ours k unlike)) tt))
        (cases_Bool (bytes_eq key k));
  }
    where
      ours : HaveKey key (map field_alone ns)
      ours = have_key_like e.schema key [] fs (map field_alone ns) h like

  -- Where some stand in the place of fields in the order of their keys, they stand in that of the fields.
  pub served_by_keys : (fs : List CollectedField) (ns : List NumberedField) → Serve e meaning (by_keys fs (keys_of fs)) ns → Serve e meaning fs ns
  served_by_keys fs ns s = record {
    keys = sym (same_keys_by_keys fs) ∙ s.keys;
    like = λ key. subst (λ xs. AreLike e.schema xs (map field_alone (numbered_of_key key ns))) (same_by_keys fs key) (s.like key);
    below = λ key. subst (λ xs. LeavesOutRepeats (map (selections_below e) xs) (below_of (numbered_of_key key ns))) (same_by_keys fs key) (s.below key);
  }

-- ---- where numbers stand for the same

module _ (e : Setting) (meaning other : ℕ → List WrittenSelections) where
  same_below : (ns : List NumberedField) (key : List ℕ) → All (λ f. meaning f.1 ≡ other f.1) ns → flat_map meaning (map number_alone (numbered_of_key key ns)) ≡ flat_map other (map number_alone (numbered_of_key key ns))
  same_below [] key same = refl
  same_below (n ∷ ns) key same = ⊎_elim
      (λ (is : has_key key n.0 ≡ true). rw (is) (ap (λ ws. ws ++ flat_map meaning (map number_alone (numbered_of_key key ns))) (All-head (λ (f : NumberedField). meaning f.1 ≡ other f.1) n ns same) ∙ ap (λ ws. other n.1 ++ ws) (same_below ns key (All-tail (λ (f : NumberedField). meaning f.1 ≡ other f.1) n ns same))))
      (λ (unlike : has_key key n.0 ≡ false). rw (unlike) (same_below ns key (All-tail (λ (f : NumberedField). meaning f.1 ≡ other f.1) n ns same)))
      (cases_Bool (has_key key n.0))

  pub serve_still : (fs : List CollectedField) (ns : List NumberedField) → All (λ f. meaning f.1 ≡ other f.1) ns → Serve e meaning fs ns → Serve e other fs ns
  serve_still fs ns same s = record { keys = s.keys; like = s.like; below = λ key. subst (λ ws. LeavesOutRepeats (map (selections_below e) (fields_of_key key fs)) ws) (same_below ns key same) (s.below key) }

-- ---- groups

module _ (e : Setting) (meaning : ℕ → List WrittenSelections) where
  -- The group is that of these numbered fields.
  pub record IsFinished (of : List NumberedField) (g : GroupData) : Type 0 where
    pub like : AreLike e.schema (map field_alone of) g.fields
    pub below : LeavesOutRepeats (flat_map meaning (map number_alone of)) g.below

  abbrev pub AreFinished : List (List NumberedField) → List GroupData → Type 0
  AreFinished [] [] = Unit {0}
  AreFinished [] (g ∷ groups) = ⊥
  AreFinished (of ∷ others) [] = ⊥
  AreFinished (of ∷ others) (g ∷ groups) = IsFinished of g × AreFinished others groups

  groups_of_keys : (left : List CollectedField) (ns : List NumberedField) → Serve e meaning left ns → (keys : List (List ℕ)) (groups : List GroupData) → AreFinished (map (λ key. numbered_of_key key ns) keys) groups → AreGroupsOf e left keys groups
  groups_of_keys left ns served [] [] h = tt
  groups_of_keys left ns served [] (g ∷ groups) h = absurd h
  groups_of_keys left ns served (key ∷ keys) [] h = absurd h
  groups_of_keys left ns served (key ∷ keys) (g ∷ groups) h = (
    record {
      like = still_like e.schema (fields_of_key key left) (map field_alone (numbered_of_key key ns)) g.fields (served.like key) h.0.like;
      below = thinned_twice [] [] (map (selections_below e) (fields_of_key key left)) (flat_map meaning (map number_alone (numbered_of_key key ns))) g.below (λ x k. absurd k) (served.below key) h.0.below;
    },
    groups_of_keys left ns served keys groups h.1,
  )

  pub groups_finished : (left : List CollectedField) (ns : List NumberedField) → Serve e meaning left ns → (groups : List GroupData) → AreFinished (numbered_by_key ns) groups → AreGroupsOf e left (keys_of left) groups
  groups_finished left ns served groups h = subst (λ keys. AreGroupsOf e left keys groups) (sym served.keys) (groups_of_keys left ns served (keys_of (map field_alone ns)) groups h)

  -- ---- what is kept in the place of fields

  pub record AreShorter (of made : List NumberedField) : Type 0 where
    pub like : AreLike e.schema (map field_alone of) (map field_alone made)
    pub below : LeavesOutRepeats (flat_map meaning (map number_alone of)) (flat_map meaning (map number_alone made))

  abbrev pub AllShorter : List (List NumberedField) → List NumberedField → Type 0
  AllShorter [] made = made ≡ []
  AllShorter (of ∷ others) made = (first : List NumberedField) × ((rest : List NumberedField) × (((made ≡ first ++ rest) × AreShorter of first) × AllShorter others rest))

  shorter_keys : (left : List CollectedField) (ns : List NumberedField) → Serve e meaning left ns → (keys : List (List ℕ)) (made : List NumberedField) → AllShorter (map (λ key. numbered_of_key key ns) keys) made → Serve e meaning (by_keys left keys) made
  shorter_keys left ns served [] made h = subst (λ ms. Serve e meaning [] ms) (sym h) (serve_none e meaning)
  shorter_keys left ns served (key ∷ keys) made h =
      let first : List NumberedField = h.0 in
      let rest : List NumberedField = h.1.0 in
      let is = h.1.1.0.1 in
      let fs : List CollectedField = fields_of_key key left in
      let here : Serve e meaning fs first = serve_key e meaning key fs first (have_key left key) (still_like e.schema fs (map field_alone (numbered_of_key key ns)) (map field_alone first) (served.like key) is.like)
      (thinned_twice [] [] (map (selections_below e) fs) (flat_map meaning (map number_alone (numbered_of_key key ns))) (flat_map meaning (map number_alone first)) (λ x k. absurd k) (served.below key) is.below) in
      subst (λ ms. Serve e meaning (by_keys left (key ∷ keys)) ms) (sym h.1.1.0.0)
      (serve_joined e meaning fs (by_keys left keys) first rest here (shorter_keys left ns served keys rest h.1.1.1))

  pub all_shorter : (left : List CollectedField) (ns made : List NumberedField) → Serve e meaning left ns → AllShorter (numbered_by_key ns) made → Serve e meaning left made
  all_shorter left ns made served h = served_by_keys e meaning left made
      (subst (λ keys. Serve e meaning (by_keys left keys) made) (sym served.keys) (shorter_keys left ns served (keys_of (map field_alone ns)) made h))
