-- Lists of numbers that are turned over: at each number stand those of the lists that hold it.
use Rattle.std.proofs.Common.{ℕ, zero, suc, ◌+◌, ◌-◌, ◌≡◌, ◌<◌, ◌≤◌, ◌≢◌, ◌||◌, if◌then◌else◌, Bool, true, false, true≢false, nat_eq, List, [], ◌∷◌, ◌++◌, length, get_or, map, slice_get, slice_set, Some, refl, sym, ap, ◌∙◌, inl, inr, subst, arith, append-nil, append_assoc}
use Rattle.std.specs.List.{list_any}
use Rattle.std.proofs.lemmas.Bool.{cases_Bool, eq-eqb, eqb-true}
use Rattle.std.proofs.lemmas.List.{length-map, map_push}
use Rattle.std.specs.Prelude.{Vec}
use Rattle.std.specs.Global.{Global}
use Rattle.schema_facts.specs.Facts.{numbers_in}
use Rattle.schema_facts.specs.Possible.{list_at, lists_with}
use Rattle.schema_facts.specs.Turning.{holds, with_last, put_at, put_each, put_lists, nones}

-- ---- a list that ends in a number

ends : (n : ℕ) (l : List ℕ) → slice_get (l ++ (n ∷ [])) (length (l ++ (n ∷ [])) - 1) ≡ Some n
ends n [] = refl
ends n (x ∷ []) = refl
ends n (x ∷ (y ∷ l)) = ap (slice_get (x ∷ y ∷ (l ++ (n ∷ [])))) (less_one (length (l ++ (n ∷ [])))) ∙ ap (slice_get (y ∷ (l ++ (n ∷ [])))) (sym (less_two (length (l ++ (n ∷ []))))) ∙ ends n (y ∷ l)
  where
    less_one : (k : ℕ) → suc (suc k) - 1 ≡ suc k
    less_one k = omega arith

    less_two : (k : ℕ) → suc k - 1 ≡ k
    less_two k = omega arith

pub twice_last : (n : ℕ) (l : List ℕ) → with_last n (l ++ (n ∷ [])) ≡ l ++ (n ∷ [])
twice_last n l = ap (λ o. if holds n o then l ++ (n ∷ []) else (l ++ (n ∷ [])) ++ (n ∷ [])) (ends n l) ∙ ap (λ b. if b then l ++ (n ∷ []) else (l ++ (n ∷ [])) ++ (n ∷ [])) (eq-eqb n n refl)

abbrev Below : ℕ → List ℕ → Type 0
Below n [] = Unit {0}
Below n (x ∷ l) = (x < n) × Below n l

unlike : (n x : ℕ) → x < n → nat_eq x n ≡ false
unlike n x less = elim (cases_Bool (nat_eq x n)) [
  | inl same ↦ let e = eqb-true x n same in absurd (omega (arith, less, e))
  | inr other ↦ other
]

not_last : (n k : ℕ) (l : List ℕ) → Below n l → holds n (slice_get l k) ≡ false
not_last n k [] b = refl
not_last n zero (x ∷ l) b = unlike n x b.0
not_last n (suc k) (x ∷ l) b = not_last n k l b.1

pub new_last : (n : ℕ) (l : List ℕ) → Below n l → with_last n l ≡ l ++ (n ∷ [])
new_last n l b = ap (λ c. if c then l else l ++ (n ∷ [])) (not_last n (length l - 1) l b)

below_more : (n : ℕ) (l : List ℕ) → Below n l → Below (n + 1) l
below_more n [] b = tt
below_more n (x ∷ l) b = let h = b.0 in (omega (arith, h), below_more n l b.1)

below_last : (n : ℕ) (l : List ℕ) → Below n l → Below (n + 1) (l ++ (n ∷ []))
below_last n [] b = (omega arith, tt)
below_last n (x ∷ l) b = let h = b.0 in (omega (arith, h), below_last n l b.1)

-- ---- one place

abbrev put_if : Bool → ℕ → List ℕ → List ℕ
put_if b n l = if b then with_last n l else l

at_same : (place n : ℕ) (lists : List (List ℕ)) → place < length lists → list_at (put_at place n lists) place ≡ with_last n (list_at lists place)
at_same place n [] h = absurd (omega (arith, h))
at_same zero n (l ∷ lists) h = refl
at_same (suc place) n (l ∷ lists) h = at_same place n lists (omega (arith, h))

at_other : (v place n : ℕ) (lists : List (List ℕ)) → v ≢ place → list_at (put_at place n lists) v ≡ list_at lists v
at_other v place n [] other = refl
at_other zero zero n (l ∷ lists) other = absurd (other refl)
at_other (suc v) zero n (l ∷ lists) other = refl
at_other zero (suc place) n (l ∷ lists) other = refl
at_other (suc v) (suc place) n (l ∷ lists) other = at_other v place n lists (λ same. other (ap suc same))

at_put : (v place n : ℕ) (lists : List (List ℕ)) → v < length lists → list_at (put_at place n lists) v ≡ put_if (nat_eq v place) n (list_at lists v)
at_put v place n lists h = elim (cases_Bool (nat_eq v place)) [
  | inl same ↦
      let e = eqb-true v place same in
      subst (λ p. list_at (put_at p n lists) v ≡ with_last n (list_at lists v)) e (at_same v n lists h) ∙ sym (ap (λ b. put_if b n (list_at lists v)) same)
  | inr other ↦ at_other v place n lists (λ e. true≢false (sym (eq-eqb v place e) ∙ other)) ∙ sym (ap (λ b. put_if b n (list_at lists v)) other)
]

length_put : (place n : ℕ) (lists : List (List ℕ)) → length (put_at place n lists) ≡ length lists
length_put place n [] = refl
length_put zero n (l ∷ lists) = refl
length_put (suc place) n (l ∷ lists) = ap suc (length_put place n lists)

-- ---- the places of a list

abbrev added : ℕ → ℕ → List ℕ → List ℕ → List ℕ
added v n [] l = l
added v n (place ∷ places) l = added v n places (put_if (nat_eq v place) n l)

length_each : (places : List ℕ) (n : ℕ) (lists : List (List ℕ)) → length (put_each places n lists) ≡ length lists
length_each [] n lists = refl
length_each (place ∷ places) n lists = length_each places n (put_at place n lists) ∙ length_put place n lists

at_each : (v : ℕ) (places : List ℕ) (n : ℕ) (lists : List (List ℕ)) → v < length lists → list_at (put_each places n lists) v ≡ added v n places (list_at lists v)
at_each v [] n lists h = refl
at_each v (place ∷ places) n lists h =
    at_each v places n (put_at place n lists) (subst (λ m. v < m) (sym (length_put place n lists)) h) ∙ ap (added v n places) (at_put v place n lists h)

added_again : (v n : ℕ) (places l : List ℕ) → added v n places (l ++ (n ∷ [])) ≡ l ++ (n ∷ [])
added_again v n [] l = refl
added_again v n (place ∷ places) l = by (added_again v n places l) (nat_eq v place)
  where
    by : added v n places (l ++ (n ∷ [])) ≡ l ++ (n ∷ []) → (b : Bool) → added v n places (put_if b n (l ++ (n ∷ []))) ≡ l ++ (n ∷ [])
    by again true = ap (added v n places) (twice_last n l) ∙ again
    by again false = again

abbrev pushed_if : Bool → ℕ → List ℕ → List ℕ
pushed_if b n l = if b then l ++ (n ∷ []) else l

added_once : (v n : ℕ) (places l : List ℕ) → Below n l → added v n places l ≡ pushed_if (list_any (nat_eq v) places) n l
added_once v n [] l b = refl
added_once v n (place ∷ places) l b = by (added_once v n places l b) (nat_eq v place)
  where
    by : added v n places l ≡ pushed_if (list_any (nat_eq v) places) n l → (c : Bool) → added v n places (put_if c n l) ≡ pushed_if (c || list_any (nat_eq v) places) n l
    by later true = ap (added v n places) (new_last n l b) ∙ added_again v n places l
    by later false = later

-- ---- all lists

abbrev entered : ℕ → ℕ → List (List ℕ) → List ℕ → List ℕ
entered v n [] l = l
entered v n (places ∷ lists) l = entered v (n + 1) lists (added v n places l)

entered_all : (v n : ℕ) (lists : List (List ℕ)) (l : List ℕ) → Below n l → entered v n lists l ≡ l ++ lists_with n v lists
entered_all v n [] l b = sym (append-nil l)
entered_all v n (places ∷ lists) l b = ap (entered v (n + 1) lists) (added_once v n places l b) ∙ by (entered_all v (n + 1) lists) (list_any (nat_eq v) places)
  where
    by : ((further : List ℕ) → Below (n + 1) further → entered v (n + 1) lists further ≡ further ++ lists_with (n + 1) v lists) → (c : Bool)
        → entered v (n + 1) lists (pushed_if c n l) ≡ l ++ (if c then n ∷ lists_with (n + 1) v lists else lists_with (n + 1) v lists)
    by all true = all (l ++ (n ∷ [])) (below_last n l b) ∙ append_assoc l (n ∷ []) (lists_with (n + 1) v lists)
    by all false = all l (below_more n l b)

at_lists : (v n : ℕ) (lists found : List (List ℕ)) → v < length found → list_at (put_lists n lists found) v ≡ entered v n lists (list_at found v)
at_lists v n [] found h = refl
at_lists v n (places ∷ lists) found h =
    at_lists v (n + 1) lists (put_each places n found) (subst (λ m. v < m) (sym (length_each places n found)) h) ∙ ap (entered v (n + 1) lists) (at_each v places n found h)

length_nones : (count : ℕ) → length (nones count) ≡ count
length_nones zero = refl
length_nones (suc count) = ap suc (length_nones count)

at_nones : (v count : ℕ) → list_at (nones count) v ≡ []
at_nones v zero = refl
at_nones zero (suc count) = refl
at_nones (suc v) (suc count) = at_nones v count

pub all_turned : (lists found : List (List ℕ)) (v : ℕ) → found ≡ put_lists 0 lists (nones (length lists)) → v < length lists → list_at found v ≡ lists_with 0 v lists
all_turned lists found v is h =
    ap (λ f. list_at f v) is ∙ at_lists v 0 lists (nones (length lists)) (subst (λ m. v < m) (sym (length_nones (length lists))) h)
    ∙ ap (entered v 0 lists) (at_nones v (length lists)) ∙ entered_all v 0 lists [] tt

-- ---- the program's lists

pub one_none_more : (lists : List (Vec ℕ Global)) (count at : ℕ) (none : Vec ℕ Global) (later : List (Vec ℕ Global)) (whole : List (List ℕ)) → at < count → none.items ≡ [] → later ≡ lists ++ (none ∷ [])
    → map numbers_in lists ++ nones (count - at) ≡ whole → map numbers_in later ++ nones (count - (at + 1)) ≡ whole
one_none_more lists count at none later whole less is pushed all =
    let one_more : count - at ≡ suc (count - (at + 1)) = omega (arith, less) in
    ap (λ l. map numbers_in l ++ nones (count - (at + 1))) pushed ∙ ap (λ l. l ++ nones (count - (at + 1))) (map_push numbers_in lists none)
    ∙ append_assoc (map numbers_in lists) (none.items ∷ []) (nones (count - (at + 1))) ∙ ap (λ l. map numbers_in lists ++ (l ∷ nones (count - (at + 1)))) is
    ∙ ap (λ k. map numbers_in lists ++ nones k) (sym one_more) ∙ all

pub put_there : (lists : List (Vec ℕ Global)) (place n : ℕ) (new old : Vec ℕ Global) → place < length lists → old ≡ get_or lists place old → new.items ≡ with_last n old.items
    → map numbers_in (slice_set lists place new) ≡ put_at place n (map numbers_in lists)
put_there [] place n new old h is longer = absurd (omega (arith, h))
put_there (l ∷ lists) zero n new old h is longer = ap (λ x. x ∷ map numbers_in lists) (longer ∙ ap (λ (o : Vec ℕ Global). with_last n o.items) is)
put_there (l ∷ lists) (suc place) n new old h is longer = ap (λ ls. numbers_in l ∷ ls) (put_there lists place n new old (omega (arith, h)) is longer)

pub put_nowhere : (lists : List (Vec ℕ Global)) (place n : ℕ) → length lists ≤ place → map numbers_in lists ≡ put_at place n (map numbers_in lists)
put_nowhere [] place n h = refl
put_nowhere (l ∷ lists) zero n h = absurd (omega (arith, h))
put_nowhere (l ∷ lists) (suc place) n h = ap (λ ls. numbers_in l ∷ ls) (put_nowhere lists place n (omega (arith, h)))

-- the same of lists that are seen as others
pub turned_as : (lists : List (Vec ℕ Global)) (was found seen : List (List ℕ)) → map numbers_in lists ≡ was → seen ≡ found
    → ((place : ℕ) → place < length lists → list_at found place ≡ lists_with 0 place (map numbers_in lists)) → (v : ℕ) → v < length was → list_at seen v ≡ lists_with 0 v was
turned_as lists was found seen is same turned v h =
    let same_length : length lists ≡ length was = sym (length-map lists numbers_in) ∙ ap length is in
    ap (λ f. list_at f v) same ∙ turned v (subst (λ m. v < m) (sym same_length) h) ∙ ap (lists_with 0 v) is
