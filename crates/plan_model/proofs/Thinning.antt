-- What a list has in common with one where repeats are left out.
use Rattle.std.proofs.Common.{◌≡◌, ◌⊎◌, inl, inr, ⊎_elim, List, [], ◌∷◌, ◌++◌, map, filter, flat_map, Bool, true, false, Option, Some, None, refl, sym, ap, ◌∙◌, subst, if◌then◌else◌}
use Rattle.std.proofs.lemmas.Bool.{cases_Bool}
use Rattle.std.specs.List.{list_any}
use Rattle.schema_rules.specs.First.{or_else, first_of}
use Rattle.plan_model.specs.Repeats.{Holds, IsThinned, LeavesOutRepeats}

module _ {A : Type 0} where
  -- ---- what a list holds

  pub held_left : (xs ys : List A) (x : A) → Holds xs x → Holds (xs ++ ys) x
  held_left [] ys x h = absurd h
  held_left (z ∷ xs) ys x (inl is) = inl is
  held_left (z ∷ xs) ys x (inr h) = inr (held_left xs ys x h)

  pub held_right : (xs ys : List A) (x : A) → Holds ys x → Holds (xs ++ ys) x
  held_right [] ys x h = h
  held_right (z ∷ xs) ys x h = inr (held_right xs ys x h)

  pub held_either : (xs ys : List A) (x : A) → Holds (xs ++ ys) x → Holds xs x ⊎ Holds ys x
  held_either [] ys x h = inr h
  held_either (z ∷ xs) ys x (inl is) = inl (inl is)
  held_either (z ∷ xs) ys x (inr h) = ⊎_elim (λ l. inl (inr l)) (λ r. inr r) (held_either xs ys x h)

  -- all that the first holds is in the second
  abbrev pub IsIn : List A → List A → Type 0
  IsIn xs ys = (x : A) → Holds xs x → Holds ys x

  in_longer : (x : A) (xs ys : List A) → IsIn xs ys → IsIn (x ∷ xs) (x ∷ ys)
  in_longer x xs ys inside z (inl is) = inl is
  in_longer x xs ys inside z (inr h) = inr (inside z h)

  held_same : (zs : List A) (x y : A) → x ≡ y → Holds zs x → Holds zs y
  held_same zs x y is h = subst (λ z. Holds zs z) is h

  -- ---- thinned lists

  -- It matters only what was seen, not in which order.
  pub seen_more : (s r xs ys : List A) → IsIn s r → IsThinned s xs ys → IsThinned r xs ys
  seen_more s r [] [] inside t = tt
  seen_more s r [] (y ∷ ys) inside t = absurd t
  seen_more s r (x ∷ xs) [] inside t = (inside x t.0, seen_more s r xs [] inside t.1)
  seen_more s r (x ∷ xs) (y ∷ ys) inside (inl stays) = inl (stays.0, seen_more (x ∷ s) (x ∷ r) xs ys (in_longer x s r inside) stays.1)
  seen_more s r (x ∷ xs) (y ∷ ys) inside (inr goes) = inr (inside x goes.0, seen_more s r xs (y ∷ ys) inside goes.1)

  pub all_stay : (s xs : List A) → IsThinned s xs xs
  all_stay s [] = tt
  all_stay s (x ∷ xs) = inl (refl, all_stay (x ∷ s) xs)

  pub all_go : (s xs : List A) → IsIn xs s → IsThinned s xs []
  all_go s [] inside = tt
  all_go s (x ∷ xs) inside = (inside x (inl refl), all_go s xs (λ z h. inside z (inr h)))

  one_goes : (s xs ys : List A) (x : A) → Holds s x → IsThinned s xs ys → IsThinned s (x ∷ xs) ys
  one_goes s xs [] x h t = (h, t)
  one_goes s xs (y ∷ ys) x h t = inr (h, t)

  -- the next one, which was seen or stays
  stays_in_front : (s ys : List A) (x y z : A) → x ≡ y → z ≡ x → Holds (s ++ (y ∷ ys)) z
  stays_in_front s ys x y z a b = held_right s (y ∷ ys) z (inl (b ∙ a))

  -- Each was seen or stays.
  pub seen_or_stays : (s xs ys : List A) → IsThinned s xs ys → IsIn xs (s ++ ys)
  seen_or_stays s [] ys t z h = absurd h
  seen_or_stays s (x ∷ xs) [] t z (inl is) = held_left s [] z (held_same s x z (sym is) t.0)
  seen_or_stays s (x ∷ xs) [] t z (inr h) = seen_or_stays s xs [] t.1 z h
  seen_or_stays s (x ∷ xs) (y ∷ ys) (inl stays) z (inl is) = stays_in_front s ys x y z stays.0 is
  seen_or_stays s (x ∷ xs) (y ∷ ys) (inl stays) z (inr h) = ⊎_elim
      (λ (is : z ≡ x). stays_in_front s ys x y z stays.0 is)
      (λ (later : Holds (s ++ ys) z). ⊎_elim (λ l. held_left s (y ∷ ys) z l) (λ r. held_right s (y ∷ ys) z (inr r)) (held_either s ys z later))
      (seen_or_stays (x ∷ s) xs ys stays.1 z h)
  seen_or_stays s (x ∷ xs) (y ∷ ys) (inr goes) z (inl is) = held_left s (y ∷ ys) z (held_same s x z (sym is) goes.0)
  seen_or_stays s (x ∷ xs) (y ∷ ys) (inr goes) z (inr h) = seen_or_stays s xs (y ∷ ys) goes.1 z h

  -- what was seen with the one that stays in front of others
  moved : (s ys : List A) (x y : A) → x ≡ y → IsIn (s ++ (y ∷ ys)) (x ∷ (s ++ ys))
  moved s ys x y is z h = ⊎_elim
      (λ (l : Holds s z). inr (held_left s ys z l))
      (λ (r : Holds (y ∷ ys) z). ⊎_elim (λ (here : z ≡ y). inl (here ∙ sym is)) (λ (later : Holds ys z). inr (held_right s ys z later)) r)
      (held_either s (y ∷ ys) z h)

  -- one list behind another
  pub in_two : (s xs ys us vs : List A) → IsThinned s xs ys → IsThinned (s ++ ys) us vs → IsThinned s (xs ++ us) (ys ++ vs)
  in_two s [] [] us vs t r = seen_more (s ++ []) s us vs (λ z h. ⊎_elim (λ l. l) (λ n. absurd n) (held_either s [] z h)) r
  in_two s [] (y ∷ ys) us vs t r = absurd t
  in_two s (x ∷ xs) [] us vs t r = one_goes s (xs ++ us) vs x t.0 (in_two s xs [] us vs t.1 r)
  in_two s (x ∷ xs) (y ∷ ys) us vs (inl stays) r = inl (stays.0, in_two (x ∷ s) xs ys us vs stays.1 (seen_more (s ++ (y ∷ ys)) (x ∷ (s ++ ys)) us vs (moved s ys x y stays.0) r))
  in_two s (x ∷ xs) (y ∷ ys) us vs (inr goes) r = inr (goes.0, in_two s xs (y ∷ ys) us vs goes.1 r)

  -- ---- what is the same of both

  abbrev pub Each : (A → Type 0) → List A → Type 0
  Each P [] = Unit {0}
  Each P (x ∷ xs) = P x × Each P xs

  pub each_that_stays : (P : A → Type 0) (s xs ys : List A) → IsThinned s xs ys → Each P xs → Each P ys
  each_that_stays P s [] [] t h = tt
  each_that_stays P s [] (y ∷ ys) t h = absurd t
  each_that_stays P s (x ∷ xs) [] t h = tt
  each_that_stays P s (x ∷ xs) (y ∷ ys) (inl stays) h = (subst P stays.0 h.0, each_that_stays P (x ∷ s) xs ys stays.1 h.1)
  each_that_stays P s (x ∷ xs) (y ∷ ys) (inr goes) h = each_that_stays P s xs (y ∷ ys) goes.1 h.1

  -- Where nothing that was seen passes a test, both lists have one that passes it, or neither.
  any_among : (test : A → Bool) (s xs ys : List A) → ((x : A) → Holds s x → test x ≡ false) → IsThinned s xs ys → list_any test xs ≡ list_any test ys
  any_among test s [] [] seen t = refl
  any_among test s [] (y ∷ ys) seen t = absurd t
  any_among test s (x ∷ xs) [] seen t = rw (seen x t.0) (any_among test s xs [] seen t.1)
  any_among test s (x ∷ xs) (y ∷ ys) seen (inl stays) = subst (λ (z : A). list_any test (x ∷ xs) ≡ list_any test (z ∷ ys)) stays.0 (⊎_elim
      (λ (passes : test x ≡ true). rw (passes) refl)
      (λ (fails : test x ≡ false). rw (fails) (any_among test (x ∷ s) xs ys (λ z h. ⊎_elim (λ (is : z ≡ x). ap test is ∙ fails) (λ later. seen z later) h) stays.1))
      (cases_Bool (test x)))
  any_among test s (x ∷ xs) (y ∷ ys) seen (inr goes) = rw (seen x goes.0) (any_among test s xs (y ∷ ys) seen goes.1)

  pub same_any : (test : A → Bool) (xs ys : List A) → LeavesOutRepeats xs ys → list_any test xs ≡ list_any test ys
  same_any test xs ys t = any_among test [] xs ys (λ x h. absurd h) t

or_else_same : {F : Type 0} (o a b : Option F) → (o ≡ None → a ≡ b) → or_else o a ≡ or_else o b
or_else_same None a b f = f refl
or_else_same (Some x) a b f = refl

module _ {A F : Type 0} (test : A → Option F) where
  -- Where a test finds nothing in what was seen, it finds the same first in both.
  first_among : (s xs ys : List A) → ((x : A) → Holds s x → test x ≡ None) → IsThinned s xs ys → first_of test xs ≡ first_of test ys
  first_among s [] [] seen t = refl
  first_among s [] (y ∷ ys) seen t = absurd t
  first_among s (x ∷ xs) [] seen t = rw (seen x t.0) (first_among s xs [] seen t.1)
  first_among s (x ∷ xs) (y ∷ ys) seen (inl stays) = subst (λ (z : A). first_of test (x ∷ xs) ≡ first_of test (z ∷ ys)) stays.0
      (or_else_same (test x) (first_of test xs) (first_of test ys) (λ none. first_among (x ∷ s) xs ys (λ z h. ⊎_elim (λ (is : z ≡ x). ap test is ∙ none) (λ later. seen z later) h) stays.1))
  first_among s (x ∷ xs) (y ∷ ys) seen (inr goes) = rw (seen x goes.0) (first_among s xs (y ∷ ys) seen goes.1)

  pub same_first_of : (xs ys : List A) → LeavesOutRepeats xs ys → first_of test xs ≡ first_of test ys
  same_first_of xs ys t = first_among [] xs ys (λ x h. absurd h) t

module _ {A B : Type 0} (f : A → B) where
  held_mapped : (xs : List A) (x : A) → Holds xs x → Holds (map f xs) (f x)
  held_mapped [] x h = absurd h
  held_mapped (z ∷ xs) x (inl is) = inl (ap f is)
  held_mapped (z ∷ xs) x (inr h) = inr (held_mapped xs x h)

  mapped_too : (s xs ys : List A) → IsThinned s xs ys → IsThinned (map f s) (map f xs) (map f ys)
  mapped_too s [] [] t = tt
  mapped_too s [] (y ∷ ys) t = absurd t
  mapped_too s (x ∷ xs) [] t = (held_mapped s x t.0, mapped_too s xs [] t.1)
  mapped_too s (x ∷ xs) (y ∷ ys) (inl stays) = inl (ap f stays.0, mapped_too (x ∷ s) xs ys stays.1)
  mapped_too s (x ∷ xs) (y ∷ ys) (inr goes) = inr (held_mapped s x goes.0, mapped_too s xs (y ∷ ys) goes.1)

  pub thinned_map : (xs ys : List A) → LeavesOutRepeats xs ys → LeavesOutRepeats (map f xs) (map f ys)
  thinned_map xs ys t = mapped_too [] xs ys t

module _ {A B : Type 0} (f : A → List B) where
  held_inside : (xs : List A) (x : A) (y : B) → Holds xs x → Holds (f x) y → Holds (flat_map f xs) y
  held_inside [] x y h in_x = absurd h
  held_inside (z ∷ xs) x y (inl is) in_x = held_left (f z) (flat_map f xs) y (subst (λ v. Holds (f v) y) is in_x)
  held_inside (z ∷ xs) x y (inr h) in_x = held_right (f z) (flat_map f xs) y (held_inside xs x y h in_x)

  -- all of an element that was seen goes
  inside_goes : (s xs : List A) (us : List B) (x : A) → Holds s x → IsThinned (flat_map f s) (flat_map f xs) us → IsThinned (flat_map f s) (f x ++ flat_map f xs) us
  inside_goes s xs us x h t = in_two (flat_map f s) (f x) [] (flat_map f xs) us
      (all_go (flat_map f s) (f x) (λ y in_x. held_inside s x y h in_x))
      (seen_more (flat_map f s) (flat_map f s ++ []) (flat_map f xs) us (λ y in_s. held_left (flat_map f s) [] y in_s) t)

  swapped : (xs ys : List B) → IsIn (xs ++ ys) (ys ++ xs)
  swapped xs ys z h = ⊎_elim (λ l. held_right ys xs z l) (λ r. held_left ys xs z r) (held_either xs ys z h)

  flattened_too : (s xs ys : List A) → IsThinned s xs ys → IsThinned (flat_map f s) (flat_map f xs) (flat_map f ys)
  flattened_too s [] [] t = tt
  flattened_too s [] (y ∷ ys) t = absurd t
  flattened_too s (x ∷ xs) [] t = inside_goes s xs [] x t.0 (flattened_too s xs [] t.1)
  flattened_too s (x ∷ xs) (y ∷ ys) (inl stays) = subst (λ (z : A). IsThinned (flat_map f s) (flat_map f (x ∷ xs)) (flat_map f (z ∷ ys))) stays.0
      (in_two (flat_map f s) (f x) (f x) (flat_map f xs) (flat_map f ys) (all_stay (flat_map f s) (f x))
      (seen_more (flat_map f (x ∷ s)) (flat_map f s ++ f x) (flat_map f xs) (flat_map f ys) (swapped (f x) (flat_map f s)) (flattened_too (x ∷ s) xs ys stays.1)))
  flattened_too s (x ∷ xs) (y ∷ ys) (inr goes) = inside_goes s xs (flat_map f (y ∷ ys)) x goes.0 (flattened_too s xs (y ∷ ys) goes.1)

  pub thinned_flat_map : (xs ys : List A) → LeavesOutRepeats xs ys → LeavesOutRepeats (flat_map f xs) (flat_map f ys)
  thinned_flat_map xs ys t = flattened_too [] xs ys t

module _ {A : Type 0} (test : A → Bool) where
  abbrev one_or_none : A → List A
  one_or_none x = if test x then x ∷ [] else []

  filter_flattens : (xs : List A) → filter test xs ≡ flat_map one_or_none xs
  filter_flattens [] = refl
  filter_flattens (x ∷ xs) = ⊎_elim
      (λ (passes : test x ≡ true). rw (passes) (ap (λ (zs : List A). x ∷ zs) (filter_flattens xs)))
      (λ (fails : test x ≡ false). rw (fails) (filter_flattens xs))
      (cases_Bool (test x))

  pub thinned_filter : (xs ys : List A) → LeavesOutRepeats xs ys → LeavesOutRepeats (filter test xs) (filter test ys)
  thinned_filter xs ys t = rw (filter_flattens xs) (rw (filter_flattens ys) (thinned_flat_map one_or_none xs ys t))
