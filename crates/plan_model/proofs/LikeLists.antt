-- What a list has in common with one where those are left out that are like one before.
use Rattle.std.proofs.Common.{◌≡◌, ◌⊎◌, inl, inr, ⊎_elim, List, [], ◌∷◌, ◌++◌, map, filter, flat_map, Bool, true, false, Option, Some, None, refl, sym, ap, ◌∙◌, subst}
use Rattle.std.proofs.lemmas.Bool.{cases_Bool}
use Rattle.std.specs.List.{list_any}
use Rattle.schema_rules.specs.First.{or_else, first_of}
use Rattle.plan_model.specs.Likeness.{HasLike, Thins}
use Rattle.plan_model.proofs.Thinning.{Each}

module _ {A B : Type 0} (R : A → B → Type 0) where
  -- ---- what is like one of a list

  pub like_in_front : (xs ys : List B) (x : A) → HasLike R xs x → HasLike R (xs ++ ys) x
  like_in_front [] ys x h = absurd h
  like_in_front (z ∷ xs) ys x (inl is) = inl is
  like_in_front (z ∷ xs) ys x (inr h) = inr (like_in_front xs ys x h)

  pub like_behind : (xs ys : List B) (x : A) → HasLike R ys x → HasLike R (xs ++ ys) x
  like_behind [] ys x h = h
  like_behind (z ∷ xs) ys x h = inr (like_behind xs ys x h)

  pub like_in_one : (xs ys : List B) (x : A) → HasLike R (xs ++ ys) x → HasLike R xs x ⊎ HasLike R ys x
  like_in_one [] ys x h = inr h
  like_in_one (z ∷ xs) ys x (inl is) = inl (inl is)
  like_in_one (z ∷ xs) ys x (inr h) = ⊎_elim (λ l. inl (inr l)) (λ r. inr r) (like_in_one xs ys x h)

  -- what is like one of the first list is like one of the second
  abbrev pub IsMore : List B → List B → Type 0
  IsMore xs ys = (x : A) → HasLike R xs x → HasLike R ys x

  both_longer : (y : B) (xs ys : List B) → IsMore xs ys → IsMore (y ∷ xs) (y ∷ ys)
  both_longer y xs ys more z (inl is) = inl is
  both_longer y xs ys more z (inr h) = inr (more z h)

  pub turned : (xs ys : List B) → IsMore (xs ++ ys) (ys ++ xs)
  turned xs ys z h = ⊎_elim (λ l. like_behind ys xs z l) (λ r. like_in_front ys xs z r) (like_in_one xs ys z h)

  nothing_behind : (xs : List B) → IsMore (xs ++ []) xs
  nothing_behind xs z h = ⊎_elim (λ l. l) (λ n. absurd n) (like_in_one xs [] z h)

  to_front : (s ys : List B) (y : B) → IsMore (s ++ (y ∷ ys)) (y ∷ (s ++ ys))
  to_front s ys y z h = ⊎_elim
      (λ (l : HasLike R s z). inr (like_in_front s ys z l))
      (λ (r : HasLike R (y ∷ ys) z). ⊎_elim (λ (here : R z y). inl here) (λ (later : HasLike R ys z). inr (like_behind s ys z later)) r)
      (like_in_one s (y ∷ ys) z h)

  from_front : (s ys : List B) (y : B) → IsMore (y ∷ (s ++ ys)) (s ++ (y ∷ ys))
  from_front s ys y z (inl here) = like_behind s (y ∷ ys) z (inl here)
  from_front s ys y z (inr h) = ⊎_elim (λ l. like_in_front s (y ∷ ys) z l) (λ r. like_behind s (y ∷ ys) z (inr r)) (like_in_one s ys z h)

  -- ---- thinned lists

  pub more_seen : (s r : List B) (xs : List A) (ys : List B) → IsMore s r → Thins R s xs ys → Thins R r xs ys
  more_seen s r [] [] more t = tt
  more_seen s r [] (y ∷ ys) more t = absurd t
  more_seen s r (x ∷ xs) [] more t = (more x t.0, more_seen s r xs [] more t.1)
  more_seen s r (x ∷ xs) (y ∷ ys) more (inl stays) = inl (stays.0, more_seen (y ∷ s) (y ∷ r) xs ys (both_longer y s r more) stays.1)
  more_seen s r (x ∷ xs) (y ∷ ys) more (inr goes) = inr (more x goes.0, more_seen s r xs (y ∷ ys) more goes.1)

  one_leaves : (s : List B) (xs : List A) (ys : List B) (x : A) → HasLike R s x → Thins R s xs ys → Thins R s (x ∷ xs) ys
  one_leaves s xs [] x h t = (h, t)
  one_leaves s xs (y ∷ ys) x h t = inr (h, t)

  pub all_leave : (s : List B) (xs : List A) → Each (HasLike R s) xs → Thins R s xs []
  all_leave s [] all = tt
  all_leave s (x ∷ xs) all = (all.0, all_leave s xs all.1)

  pub each_in_more : (s r : List B) (xs : List A) → IsMore s r → Each (HasLike R s) xs → Each (HasLike R r) xs
  each_in_more s r [] more all = tt
  each_in_more s r (x ∷ xs) more all = (more x all.0, each_in_more s r xs more all.1)

  -- Each is like one that was seen or stays.
  pub each_has_like : (s : List B) (xs : List A) (ys : List B) → Thins R s xs ys → Each (HasLike R (s ++ ys)) xs
  each_has_like s [] ys t = tt
  each_has_like s (x ∷ xs) [] t = (like_in_front s [] x t.0, each_has_like s xs [] t.1)
  each_has_like s (x ∷ xs) (y ∷ ys) (inl stays) = (like_behind s (y ∷ ys) x (inl stays.0), each_in_more (y ∷ (s ++ ys)) (s ++ (y ∷ ys)) xs (from_front s ys y) (each_has_like (y ∷ s) xs ys stays.1))
  each_has_like s (x ∷ xs) (y ∷ ys) (inr goes) = (like_in_front s (y ∷ ys) x goes.0, each_has_like s xs (y ∷ ys) goes.1)

  -- one list behind another
  pub one_behind : (s : List B) (xs : List A) (ys : List B) (us : List A) (vs : List B) → Thins R s xs ys → Thins R (s ++ ys) us vs → Thins R s (xs ++ us) (ys ++ vs)
  one_behind s [] [] us vs t r = more_seen (s ++ []) s us vs (nothing_behind s) r
  one_behind s [] (y ∷ ys) us vs t r = absurd t
  one_behind s (x ∷ xs) [] us vs t r = one_leaves s (xs ++ us) vs x t.0 (one_behind s xs [] us vs t.1 r)
  one_behind s (x ∷ xs) (y ∷ ys) us vs (inl stays) r = inl (stays.0, one_behind (y ∷ s) xs ys us vs stays.1 (more_seen (s ++ (y ∷ ys)) (y ∷ (s ++ ys)) us vs (to_front s ys y) r))
  one_behind s (x ∷ xs) (y ∷ ys) us vs (inr goes) r = inr (goes.0, one_behind s xs (y ∷ ys) us vs goes.1 r)

  -- a list all of which is like what was seen, in front of another
  pub leave_first : (s : List B) (xs us : List A) (vs : List B) → Each (HasLike R s) xs → Thins R s us vs → Thins R s (xs ++ us) vs
  leave_first s xs us vs all t = one_behind s xs [] us vs (all_leave s xs all) (more_seen s (s ++ []) us vs (like_in_front s []) t)

  -- a list and what is like it, in front of others
  pub stay_first : (s : List B) (xs : List A) (ys : List B) (us : List A) (vs : List B) → Thins R [] xs ys → Thins R (ys ++ s) us vs → Thins R s (xs ++ us) (ys ++ vs)
  stay_first s xs ys us vs t r = one_behind s xs ys us vs (more_seen [] s xs ys (λ z h. absurd h) t) (more_seen (ys ++ s) (s ++ ys) us vs (turned ys s) r)

  -- ---- what is the same of both

  module _ (test : A → Bool) (other : B → Bool) (same : (x : A) (y : B) → R x y → test x ≡ other y) where
    fails_too : (s : List B) (x : A) → Each (λ y. other y ≡ false) s → HasLike R s x → test x ≡ false
    fails_too [] x seen h = absurd h
    fails_too (y ∷ s) x seen (inl is) = same x y is ∙ seen.0
    fails_too (y ∷ s) x seen (inr h) = fails_too s x seen.1 h

    any_beside : (s : List B) (xs : List A) (ys : List B) → Each (λ y. other y ≡ false) s → Thins R s xs ys → list_any test xs ≡ list_any other ys
    any_beside s [] [] seen t = refl
    any_beside s [] (y ∷ ys) seen t = absurd t
    any_beside s (x ∷ xs) [] seen t = rw (fails_too s x seen t.0) (any_beside s xs [] seen t.1)
    any_beside s (x ∷ xs) (y ∷ ys) seen (inl stays) = ⊎_elim
        (λ (passes : other y ≡ true). rw (same x y stays.0 ∙ passes) (rw (passes) refl))
        (λ (fails : other y ≡ false). rw (same x y stays.0 ∙ fails) (rw (fails) (any_beside (y ∷ s) xs ys (fails, seen) stays.1)))
        (cases_Bool (other y))
    any_beside s (x ∷ xs) (y ∷ ys) seen (inr goes) = rw (fails_too s x seen goes.0) (any_beside s xs (y ∷ ys) seen goes.1)

    pub same_any_like : (xs : List A) (ys : List B) → Thins R [] xs ys → list_any test xs ≡ list_any other ys
    same_any_like xs ys t = any_beside [] xs ys tt t

    passes_too : (s : List B) (x : A) → test x ≡ true → HasLike R s x → HasLike R (filter other s) x
    passes_too [] x passes h = absurd h
    passes_too (y ∷ s) x passes (inl is) = rw (sym (same x y is) ∙ passes) (inl is)
    passes_too (y ∷ s) x passes (inr h) = ⊎_elim
        (λ (stays : other y ≡ true). rw (stays) (inr (passes_too s x passes h)))
        (λ (goes : other y ≡ false). rw (goes) (passes_too s x passes h))
        (cases_Bool (other y))

    pub filtered_like : (s : List B) (xs : List A) (ys : List B) → Thins R s xs ys → Thins R (filter other s) (filter test xs) (filter other ys)
    filtered_like s [] [] t = tt
    filtered_like s [] (y ∷ ys) t = absurd t
    filtered_like s (x ∷ xs) [] t = ⊎_elim
        (λ (passes : test x ≡ true). rw (passes) (one_leaves (filter other s) (filter test xs) [] x (passes_too s x passes t.0) (filtered_like s xs [] t.1)))
        (λ (fails : test x ≡ false). rw (fails) (filtered_like s xs [] t.1))
        (cases_Bool (test x))
    filtered_like s (x ∷ xs) (y ∷ ys) (inl stays) = ⊎_elim
        (λ (passes : other y ≡ true). rw (same x y stays.0 ∙ passes) (rw (passes) (inl (stays.0, subst (λ (seen : List B). Thins R seen (filter test xs) (filter other ys)) (kept_in passes) (filtered_like (y ∷ s) xs ys stays.1)))))
        (λ (fails : other y ≡ false). rw (same x y stays.0 ∙ fails) (rw (fails) (subst (λ (seen : List B). Thins R seen (filter test xs) (filter other ys)) (left_out fails) (filtered_like (y ∷ s) xs ys stays.1))))
        (cases_Bool (other y))
      where
        kept_in : other y ≡ true → filter other (y ∷ s) ≡ y ∷ filter other s
        kept_in passes = rw (passes) refl

        left_out : other y ≡ false → filter other (y ∷ s) ≡ filter other s
        left_out fails = rw (fails) refl
    filtered_like s (x ∷ xs) (y ∷ ys) (inr goes) = ⊎_elim
        (λ (passes : test x ≡ true). rw (passes) (one_leaves (filter other s) (filter test xs) (filter other (y ∷ ys)) x (passes_too s x passes goes.0) (filtered_like s xs (y ∷ ys) goes.1)))
        (λ (fails : test x ≡ false). rw (fails) (filtered_like s xs (y ∷ ys) goes.1))
        (cases_Bool (test x))

or_else_alike : {F : Type 0} (o u : Option F) (a b : Option F) → o ≡ u → (u ≡ None → a ≡ b) → or_else o a ≡ or_else u b
or_else_alike o None a b is f = rw (is) (f refl)
or_else_alike o (Some x) a b is f = rw (is) refl

module _ {A B F : Type 0} (R : A → B → Type 0) (test : A → Option F) (other : B → Option F) (same : (x : A) (y : B) → R x y → test x ≡ other y) where
  finds_none_too : (s : List B) (x : A) → Each (λ y. other y ≡ None) s → HasLike R s x → test x ≡ None
  finds_none_too [] x seen h = absurd h
  finds_none_too (y ∷ s) x seen (inl is) = same x y is ∙ seen.0
  finds_none_too (y ∷ s) x seen (inr h) = finds_none_too s x seen.1 h

  first_beside : (s : List B) (xs : List A) (ys : List B) → Each (λ y. other y ≡ None) s → Thins R s xs ys → first_of test xs ≡ first_of other ys
  first_beside s [] [] seen t = refl
  first_beside s [] (y ∷ ys) seen t = absurd t
  first_beside s (x ∷ xs) [] seen t = rw (finds_none_too s x seen t.0) (first_beside s xs [] seen t.1)
  first_beside s (x ∷ xs) (y ∷ ys) seen (inl stays) = or_else_alike (test x) (other y) (first_of test xs) (first_of other ys) (same x y stays.0) (λ none. first_beside (y ∷ s) xs ys (none, seen) stays.1)
  first_beside s (x ∷ xs) (y ∷ ys) seen (inr goes) = rw (finds_none_too s x seen goes.0) (first_beside s xs (y ∷ ys) seen goes.1)

  pub same_first_like : (xs : List A) (ys : List B) → Thins R [] xs ys → first_of test xs ≡ first_of other ys
  same_first_like xs ys t = first_beside [] xs ys tt t

module _ {A B C D : Type 0} (R : A → B → Type 0) (Q : C → D → Type 0) (f : A → C) (g : B → D) (also : (x : A) (y : B) → R x y → Q (f x) (g y)) where
  like_mapped : (s : List B) (x : A) → HasLike R s x → HasLike Q (map g s) (f x)
  like_mapped [] x h = absurd h
  like_mapped (y ∷ s) x (inl is) = inl (also x y is)
  like_mapped (y ∷ s) x (inr h) = inr (like_mapped s x h)

  pub mapped_like : (s : List B) (xs : List A) (ys : List B) → Thins R s xs ys → Thins Q (map g s) (map f xs) (map g ys)
  mapped_like s [] [] t = tt
  mapped_like s [] (y ∷ ys) t = absurd t
  mapped_like s (x ∷ xs) [] t = (like_mapped s x t.0, mapped_like s xs [] t.1)
  mapped_like s (x ∷ xs) (y ∷ ys) (inl stays) = inl (also x y stays.0, mapped_like (y ∷ s) xs ys stays.1)
  mapped_like s (x ∷ xs) (y ∷ ys) (inr goes) = inr (like_mapped s x goes.0, mapped_like s xs (y ∷ ys) goes.1)

map_itself : {A : Type 0} (xs : List A) → map (λ x. x) xs ≡ xs
map_itself [] = refl
map_itself (x ∷ xs) = ap (λ ys. x ∷ ys) (map_itself xs)

-- the second list alone, seen as another
pub seen_like : {A B D : Type 0} (R : A → B → Type 0) (Q : A → D → Type 0) (g : B → D) → ((x : A) (y : B) → R x y → Q x (g y)) → (xs : List A) (ys : List B) → Thins R [] xs ys → Thins Q [] xs (map g ys)
seen_like R Q g also xs ys t = subst (λ zs. Thins Q [] zs (map g ys)) (map_itself xs) (mapped_like R Q (λ x. x) g also [] xs ys t)

-- each element beside what it is seen as
pub all_like : {A B : Type 0} (R : A → B → Type 0) (g : A → B) → ((x : A) → R x (g x)) → (s : List B) (xs : List A) → Thins R s xs (map g xs)
all_like R g each s [] = tt
all_like R g each s (x ∷ xs) = inl (each x, all_like R g each (g x ∷ s) xs)

module _ {A B C D : Type 0} (R : A → B → Type 0) (Q : C → D → Type 0) (f : A → List C) (g : B → List D) (also : (x : A) (y : B) → R x y → Thins Q [] (f x) (g y)) where
  -- All inside of what is like one before is like something before.
  inside_like : (s : List B) (x : A) → HasLike R s x → Each (HasLike Q (flat_map g s)) (f x)
  inside_like [] x h = absurd h
  inside_like (y ∷ s) x (inl is) = each_in_more Q (g y) (g y ++ flat_map g s) (f x) (like_in_front Q (g y) (flat_map g s)) (each_has_like Q [] (f x) (g y) (also x y is))
  inside_like (y ∷ s) x (inr h) = each_in_more Q (flat_map g s) (g y ++ flat_map g s) (f x) (like_behind Q (g y) (flat_map g s)) (inside_like s x h)

  pub flattened_like : (s : List B) (xs : List A) (ys : List B) → Thins R s xs ys → Thins Q (flat_map g s) (flat_map f xs) (flat_map g ys)
  flattened_like s [] [] t = tt
  flattened_like s [] (y ∷ ys) t = absurd t
  flattened_like s (x ∷ xs) [] t = leave_first Q (flat_map g s) (f x) (flat_map f xs) [] (inside_like s x t.0) (flattened_like s xs [] t.1)
  flattened_like s (x ∷ xs) (y ∷ ys) (inl stays) = stay_first Q (flat_map g s) (f x) (g y) (flat_map f xs) (flat_map g ys) (also x y stays.0) (flattened_like (y ∷ s) xs ys stays.1)
  flattened_like s (x ∷ xs) (y ∷ ys) (inr goes) = leave_first Q (flat_map g s) (f x) (flat_map f xs) (flat_map g (y ∷ ys)) (inside_like s x goes.0) (flattened_like s xs (y ∷ ys) goes.1)

-- What is left of a list where elements are left out, and then of that again.
module _ {A B C : Type 0} (R : A → B → Type 0) (Q : B → C → Type 0) (P : A → C → Type 0) (through : (x : A) (y : B) (z : C) → R x y → Q y z → P x z) where
  like_through : (r : List C) (x : A) (y : B) → R x y → HasLike Q r y → HasLike P r x
  like_through [] x y is h = absurd h
  like_through (z ∷ r) x y is (inl here) = inl (through x y z is here)
  like_through (z ∷ r) x y is (inr later) = inr (like_through r x y is later)

  abbrev IsLikeIn : List B → List C → Type 0
  IsLikeIn s r = (x : A) → HasLike R s x → HasLike P r x

  one_more_in : (s : List B) (r : List C) (y : B) → HasLike Q r y → IsLikeIn s r → IsLikeIn (y ∷ s) r
  one_more_in s r y here inside x (inl is) = like_through r x y is here
  one_more_in s r y here inside x (inr h) = inside x h

  both_more_in : (s : List B) (r : List C) (y : B) (z : C) → Q y z → IsLikeIn s r → IsLikeIn (y ∷ s) (z ∷ r)
  both_more_in s r y z here inside x (inl is) = inl (through x y z is here)
  both_more_in s r y z here inside x (inr h) = inr (inside x h)

  pub twice_like : (s : List B) (r : List C) (xs : List A) (ys : List B) (zs : List C) → IsLikeIn s r → Thins R s xs ys → Thins Q r ys zs → Thins P r xs zs
  twice_like s r [] [] [] inside a b = tt
  twice_like s r [] [] (z ∷ zs) inside a b = absurd b
  twice_like s r [] (y ∷ ys) zs inside a b = absurd a
  twice_like s r (x ∷ xs) [] [] inside a b = (inside x a.0, twice_like s r xs [] [] inside a.1 tt)
  twice_like s r (x ∷ xs) [] (z ∷ zs) inside a b = absurd b
  twice_like s r (x ∷ xs) (y ∷ ys) [] inside (inl stays) b = (like_through r x y stays.0 b.0, twice_like (y ∷ s) r xs ys [] (one_more_in s r y b.0 inside) stays.1 b.1)
  twice_like s r (x ∷ xs) (y ∷ ys) [] inside (inr goes) b = (inside x goes.0, twice_like s r xs (y ∷ ys) [] inside goes.1 b)
  twice_like s r (x ∷ xs) (y ∷ ys) (z ∷ zs) inside (inl stays) (inl keeps) = inl (through x y z stays.0 keeps.0, twice_like (y ∷ s) (z ∷ r) xs ys zs (both_more_in s r y z keeps.0 inside) stays.1 keeps.1)
  twice_like s r (x ∷ xs) (y ∷ ys) (z ∷ zs) inside (inl stays) (inr goes) = inr (like_through r x y stays.0 goes.0, twice_like (y ∷ s) r xs ys (z ∷ zs) (one_more_in s r y goes.0 inside) stays.1 goes.1)
  twice_like s r (x ∷ xs) (y ∷ ys) (z ∷ zs) inside (inr goes) b = inr (inside x goes.0, twice_like s r xs (y ∷ ys) (z ∷ zs) inside goes.1 b)
