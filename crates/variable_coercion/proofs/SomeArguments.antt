-- Some of the arguments of a field, at their places.
use Rattle.std.proofs.Common.{◌≡◌, ◌+◌, ◌<◌, ◌≤◌, ℕ, zero, suc, arith, List, [], ◌∷◌, map, take, length, get_or, All, slice_set, Option, Some, None, Result, Ok, Err, refl, sym, ap, ◌∙◌, subst}
use Rattle.std.specs.List.{slice_get}
use Rattle.std.proofs.lemmas.List.{length-map, map-set}
use Rattle.std.proofs.lemmas.List.Elements.{All-more}
use Rattle.std.proofs.lemmas.Option.{slice_get_past}
use Rattle.schema_model.specs.Arguments.{ArgData}
use Rattle.variable_coercion.specs.Refusals.{Refusal, and_then, all_in_order}
use Rattle.variable_coercion.specs.Calls.{IsTold, AgreeAt}

-- ---- answers one after another, all of them given

module _ {D A : Type 0} (answer : D → Result A Refusal) where
  both_given : (one : Result A Refusal) (others : Result (List A) Refusal) (ys : List A) → and_then one others ≡ Ok ys → (y : A) × (rest : List A) × (one ≡ Ok y) × (others ≡ Ok rest) × (ys ≡ y ∷ rest)
  both_given (Ok y) (Ok rest) ys is = (y, rest, refl, refl, sym (same_given (y ∷ rest) ys is))
    where
      same_given : (xs ys : List A) → ◌≡◌ {A = Result (List A) Refusal} (Ok xs) (Ok ys) → xs ≡ ys
      same_given xs ys h = ap given h
        where
          given : Result (List A) Refusal → List A
          given (Ok zs) = zs
          given (Err refusal) = []
  both_given (Ok y) (Err refusal) ys is = absurd (cc)
  both_given (Err refusal) others ys is = absurd (cc)

  pub as_many : (ds : List D) (ys : List A) → all_in_order answer ds ≡ Ok ys → length ys ≡ length ds
  as_many [] ys is = as_none ys is
    where
      as_none : (ys : List A) → ◌≡◌ {A = Result (List A) Refusal} (Ok []) (Ok ys) → length ys ≡ 0
      as_none [] h = refl
      as_none (y ∷ ys) h = absurd (cc)
  as_many (d ∷ ds) ys is = let b = both_given (answer d) (all_in_order answer ds) ys is in ap length b.4 ∙ ap suc (as_many ds b.1 b.3)

  pub given_at : (ds : List D) (ys : List A) (n : ℕ) (d : D) → all_in_order answer ds ≡ Ok ys → slice_get ds n ≡ Some d → (y : A) × (answer d ≡ Ok y) × (slice_get ys n ≡ Some y)
  given_at [] ys n d is there = absurd (cc)
  given_at (x ∷ ds) ys zero d is there = let b = both_given (answer x) (all_in_order answer ds) ys is in (b.0, ap answer (sym (same_one x d there)) ∙ b.2, ap (λ zs. slice_get zs 0) b.4)
    where
      same_one : (x y : D) → Some x ≡ Some y → x ≡ y
      same_one x y h = ap (λ o. given_or x o) h
        where
          given_or : D → Option D → D
          given_or z None = z
          given_or z (Some v) = v
  given_at (x ∷ ds) ys (suc n) d is there =
      let b = both_given (answer x) (all_in_order answer ds) ys is in
      let later = given_at ds b.1 n d b.3 there in
      (later.0, later.1, ap (λ zs. slice_get zs (suc n)) b.4 ∙ later.2)

  -- as it was answered
  pub given_as : (ds : List D) (ys : List A) (n : ℕ) (d : D) (y : A) → all_in_order answer ds ≡ Ok ys → slice_get ds n ≡ Some d → answer d ≡ Ok y → slice_get ys n ≡ Some y
  given_as ds ys n d y is there says = let g = given_at ds ys n d is there in g.2 ∙ ap Some (same_answer g.0 y (sym g.1 ∙ says))
    where
      same_answer : (x z : A) → ◌≡◌ {A = Result A Refusal} (Ok x) (Ok z) → x ≡ z
      same_answer x z h = ap given h
        where
          given : Result A Refusal → A
          given (Ok v) = v
          given (Err refusal) = x

-- ---- one more is put at its place

pub put_there : (some args : List ArgData) (p : ℕ) (y : ArgData) → length some ≡ length args → slice_get args p ≡ Some y → AgreeAt (slice_set some p y) args p
put_there [] [] p y long there = refl
put_there [] (a ∷ args) p y long there = absurd (cc)
put_there (s ∷ some) [] p y long there = absurd (cc)
put_there (s ∷ some) (a ∷ args) zero y long there = sym there
put_there (s ∷ some) (a ∷ args) (suc p) y long there = put_there some args p y (omega (arith, long)) there

pub put_beside : (some args : List ArgData) (p q : ℕ) (y : ArgData) → slice_get args p ≡ Some y → AgreeAt some args q → AgreeAt (slice_set some p y) args q
put_beside [] args p q y there same = same
put_beside (s ∷ some) [] p q y there same = absurd (no_place p y there)
  where
    no_place : (p : ℕ) (y : ArgData) → slice_get [] p ≡ Some y → ⊥
    no_place p y is = cc
put_beside (s ∷ some) (a ∷ args) zero zero y there same = sym there
put_beside (s ∷ some) (a ∷ args) zero (suc q) y there same = same
put_beside (s ∷ some) (a ∷ args) (suc p) zero y there same = same
put_beside (s ∷ some) (a ∷ args) (suc p) (suc q) y there same = put_beside some args p q y there same

-- past the end there is none
pub none_there : (some args : List ArgData) (p : ℕ) → length some ≡ length args → length args ≤ p → AgreeAt some args p
none_there some args p long past = slice_get_past some p (omega (arith, long, past)) ∙ sym (slice_get_past args p past)

-- what is told where all are given
pub none_told : {A : Type 0} (told : Option Refusal) (answer : Result A Refusal) (y : A) → answer ≡ Ok y → IsTold told answer → told ≡ None
none_told None answer y is h = refl
none_told (Some refusal) answer y is h = absurd (no_both (sym is ∙ h))
  where
    no_both : {A : Type 0} {y : A} → ◌≡◌ {A = Result A Refusal} (Ok y) (Err refusal) → ⊥
    no_both h = cc

module _ {V : Type 0} (view : V → ArgData) (old : List V) (args : List ArgData) (place : ℕ) (long : length old ≡ length args) where
  seen_long : length (map view old) ≡ length args
  seen_long = length-map old view ∙ long

  pub puts_one : (now : List V) (v : V) → now ≡ slice_set old place v → slice_get args place ≡ Some (view v) → AgreeAt (map view now) args place × ((other : ℕ) → AgreeAt (map view old) args other → AgreeAt (map view now) args other)
  puts_one now v put there =
      let seen : map view now ≡ slice_set (map view old) place (view v) = ap (map view) put ∙ map-set view old place v in (
        subst (λ (l : List ArgData). AgreeAt l args place) (sym seen) (put_there (map view old) args place (view v) seen_long there),
        λ other same. subst (λ (l : List ArgData). AgreeAt l args other) (sym seen) (put_beside (map view old) args place other (view v) there same),
      )

  pub puts_none : length args ≤ place → AgreeAt (map view old) args place × ((other : ℕ) → AgreeAt (map view old) args other → AgreeAt (map view old) args other)
  puts_none past = (none_there (map view old) args place seen_long past, λ other same. same)

-- so they agree at one place more
pub agree_more : (old now args : List ArgData) (places : List ℕ) (i d : ℕ) → i < length places → All (AgreeAt old args) (take i places) → AgreeAt now args (get_or places i d) × ((other : ℕ) → AgreeAt old args other → AgreeAt now args other) → All (AgreeAt now args) (take (i + 1) places)
agree_more old now args places i d within all put = All-more (AgreeAt now args) places i d within (λ k default less. put.1 (get_or (take i places) k default) (all k default less)) put.0
