-- Selection sets that are added to a list once, and lists that are put behind others.
use Rattle.std.proofs.Common.{◌≡◌, inl, inr, ⊎_elim, ℕ, zero, suc, ◌+◌, ◌-◌, ◌<◌, ◌≤◌, ltb, List, [], ◌∷◌, ◌++◌, map, flat_map, take, length, get_or, slice_get, Bool, true, false, Option, Some, None, Vec, length-append, append-nil, append_assoc, refl, sym, ap, ◌∙◌, subst, arith, if◌then◌else◌}
use Rattle.std.specs.declared.alloc.Global.{Global}
use Rattle.std.specs.Prelude.{SomeIff}
use Rattle.std.proofs.lemmas.Bool.{lt-ltb, ltb-true, cases_lt}
use Rattle.std.proofs.lemmas.Grind.{flat_map-append}
use Rattle.std.proofs.lemmas.List.{length-map, take_more, take_all}
use Rattle.std.proofs.lemmas.Option.{none-some, slice_get-map, slice_get_read, get_or_from_slice_get}
use Rattle.plan_model.specs.Repeats.{Holds, IsThinned, LeavesOutRepeats}
use Rattle.plan_model.proofs.Thinning.{in_two}
use Rattle.collected_fields.specs.declared.joins.Joins.{Joins}
use Rattle.collected_fields.specs.Joining.{AddsEach}
use Rattle.collected_fields.specs.Lists.{lists_of_joins, sets_in_joins, HasMore, MayStandForList}
use Rattle.collected_fields.specs.Serving.{sets_of}
use Rattle.collected_fields.proofs.ListLaws.{more_again}
use Rattle.collected_fields.proofs.WalkLaws.{seen_as}

-- ---- adding

pub adds_none : (a : List ℕ) → AddsEach [] a a
adds_none a = record { more = []; grown = sym (append-nil a); thin = tt }

pub adds_both : (xs ys a b c : List ℕ) → AddsEach xs a b → AddsEach ys b c → AddsEach (xs ++ ys) a c
adds_both xs ys a b c one two = record {
  more = one.more ++ two.more;
  grown = two.grown ∙ (ap (λ (l : List ℕ). l ++ two.more) one.grown ∙ append_assoc a one.more two.more);
  thin = in_two a xs one.more ys two.more one.thin (subst (λ (l : List ℕ). IsThinned l ys two.more) one.grown two.thin);
}

pub adds_held : (a : List ℕ) (set : ℕ) → Holds a set → AddsEach (set ∷ []) a a
adds_held a set is = record { more = []; grown = sym (append-nil a); thin = (is, tt) }

pub adds_new : (a b : List ℕ) (set : ℕ) → b ≡ a ++ (set ∷ []) → AddsEach (set ∷ []) a b
adds_new a b set grown = record { more = set ∷ []; grown = grown; thin = inl (refl, tt) }

pub adds_next : (sets : List ℕ) (at d : ℕ) (a b c : List ℕ) → at < length sets → AddsEach (take at sets) a b → AddsEach (get_or sets at d ∷ []) b c → AddsEach (take (at + 1) sets) a c
adds_next sets at d a b c here first second =
    subst (λ xs. AddsEach xs a c) (sym (take_more sets at d here)) (adds_both (take at sets) (get_or sets at d ∷ []) a b c first second)

pub adds_all : (sets : List ℕ) (at : ℕ) (a b : List ℕ) → length sets ≤ at → AddsEach (take at sets) a b → AddsEach sets a b
adds_all sets at a b past h = subst (λ xs. AddsEach xs a b) (take_all at sets past) h

pub left_next : (sets : ℕ → List ℕ) (numbers : List ℕ) (at d : ℕ) (a b : List ℕ) → at < length numbers → LeavesOutRepeats (flat_map sets (take at numbers)) a → AddsEach (sets (get_or numbers at d)) a b → LeavesOutRepeats (flat_map sets (take (at + 1) numbers)) b
left_next sets numbers at d a b here before one =
    let number : ℕ = get_or numbers at d in
    let longer : flat_map sets (take (at + 1) numbers) ≡ flat_map sets (take at numbers) ++ sets number =
    ap (flat_map sets) (take_more numbers at d here) ∙ (flat_map-append sets (take at numbers) (number ∷ []) ∙ ap (λ (xs : List ℕ). flat_map sets (take at numbers) ++ xs) (append-nil (sets number))) in
    subst (λ xs. LeavesOutRepeats xs b) (sym longer) (subst (λ ys. LeavesOutRepeats (flat_map sets (take at numbers) ++ sets number) ys) (sym one.grown)
    (in_two [] (flat_map sets (take at numbers)) a (sets number) one.more before one.thin))

pub held_at : (list : List ℕ) (at set other : ℕ) → slice_get list at ≡ Some other → other ≡ set → Holds list set
held_at [] at set other there is = absurd (none-some other there)
held_at (x ∷ list) zero set other there is = inl (sym is ∙ sym (some-same x other there))
  where
    some-same : (a b : ℕ) → Some a ≡ Some b → a ≡ b
    some-same a b h = cc
held_at (x ∷ list) (suc at) set other there is = inr (held_at list at set other there is)

-- ---- lists behind others

module _ (count : ℕ) (lists : List (List ℕ)) (last : List ℕ) where
  got_before : (ls : List (List ℕ)) (n : ℕ) → n < length ls → get_or (ls ++ (last ∷ [])) n [] ≡ get_or ls n []
  got_before [] n h = absurd (none_less n h)
    where
      none_less : (n : ℕ) → n < 0 → ⊥
      none_less n h = omega arith
  got_before (l ∷ ls) zero h = refl
  got_before (l ∷ ls) (suc n) h = got_before ls n (omega arith)

  got_last : (ls : List (List ℕ)) (n : ℕ) → n ≡ length ls → get_or (ls ++ (last ∷ [])) n [] ≡ last
  got_last [] n is = ap (λ m. get_or (last ∷ []) m []) is
  got_last (l ∷ ls) zero is = absurd (omega (arith, is))
  got_last (l ∷ ls) (suc n) is = got_last ls n (omega (arith, is))

  pub same_set : (number : ℕ) → number < count + length lists → sets_of count (lists ++ (last ∷ [])) number ≡ sets_of count lists number
  same_set number h = ⊎_elim
      (λ (less : number < count). rw (lt-ltb number count less) refl)
      (λ (past : count ≤ number). ap (λ (xs : List ℕ). if ltb number count then number ∷ [] else xs) (got_before lists (number - count) (omega arith)))
      (cases_lt number count)

pub new_set : (count : ℕ) (lists : List (List ℕ)) (last : List ℕ) (place : ℕ) → place ≡ length lists → sets_of count (lists ++ (last ∷ [])) (count + place) ≡ last
new_set count lists last place is = past_count (ltb (count + place) count) refl
  where
    not_less : ltb (count + place) count ≡ true → ⊥
    not_less h = let less : count + place < count = ltb-true (count + place) count h in omega (arith, less)

    past_count : (b : Bool) → ltb (count + place) count ≡ b → (if ltb (count + place) count then (count + place) ∷ [] else get_or (lists ++ (last ∷ [])) (count + place - count) []) ≡ last
    past_count true h = absurd (not_less h)
    past_count false h = rw (h) (let back : count + place - count ≡ length lists = omega (arith, is) in got_last count lists last lists (count + place - count) back)

-- ---- more lists

pub pushed_more : (old new : Joins) (last : List ℕ) → new.count ≡ old.count → lists_of_joins new ≡ lists_of_joins old ++ (last ∷ []) → HasMore old new
pushed_more old new last count grown number h =
    let long : length new.lists.items ≡ length old.lists.items + 1 = sym (length-map new.lists.items (λ l. l.items)) ∙ (ap length grown ∙ (length-append (lists_of_joins old) (last ∷ []) ∙ ap (λ n. n + 1) (length-map old.lists.items (λ l. l.items)))) in
    let less : number < old.count + length (lists_of_joins old) = subst (λ n. number < old.count + n) (sym (length-map old.lists.items (λ l. l.items))) h in (
      omega (arith, h, long, count),
      ap (λ n. sets_of n (lists_of_joins new) number) count ∙ (ap (λ ls. sets_of old.count ls number) grown ∙ same_set old.count (lists_of_joins old) last number less),
    )

pub same_more : (old new : Joins) → new.count ≡ old.count → new.lists.items ≡ old.lists.items → HasMore old new
same_more old new count lists number h = (
  let long : length new.lists.items ≡ length old.lists.items = ap length lists in omega (arith, h, long, count),
  ap (λ n. sets_of n (lists_of_joins new) number) count ∙ ap (λ (ls : List (Vec ℕ Global)). sets_of old.count (map (λ l. l.items) ls) number) lists,
)

pub same_flat : (a b c : Joins) → b.count ≡ a.count → b.lists ≡ a.lists → HasMore b c → HasMore a c
same_flat a b c count lists more = more_again a b c (same_more a b count (ap (λ (v : Vec (Vec ℕ Global) Global). v.items) lists)) more

got_within : {A : Type 0} (xs : List A) (n : ℕ) (x : A) → slice_get xs n ≡ Some x → n < length xs
got_within [] n x h = absurd (none-some x h)
got_within (y ∷ xs) zero x h = omega arith
got_within (y ∷ xs) (suc n) x h = let less = got_within xs n x h in omega (arith, less)

behind_count : (count : ℕ) (lists : List (List ℕ)) (place : ℕ) → sets_of count lists (count + place) ≡ get_or lists place []
behind_count count lists place = past_count (ltb (count + place) count) refl
  where
    not_less : ltb (count + place) count ≡ true → ⊥
    not_less h = let less : count + place < count = ltb-true (count + place) count h in omega (arith, less)

    past_count : (b : Bool) → ltb (count + place) count ≡ b → sets_of count lists (count + place) ≡ get_or lists place []
    past_count true h = absurd (not_less h)
    past_count false h = rw (h) (let back : count + place - count ≡ place = omega arith in ap (λ n. get_or lists n []) back)

-- a list that stands there
pub found_stands : (j : Joins) (list : List ℕ) (place : ℕ) (number : Option ℕ) (P : Type 0) → SomeIff number P (j.count + place) → slice_get (lists_of_joins j) place ≡ Some list → MayStandForList j list number
found_stands j list place None P is there = tt
found_stands j list place (Some number) P is there =
    let less : place < length (lists_of_joins j) = got_within (lists_of_joins j) place list there in
    let long : length (lists_of_joins j) ≡ length j.lists.items = length-map j.lists.items (λ l. l.items) in (
      let same : number ≡ j.count + place = is.1 in omega (arith, same, less, long),
      ap (sets_in_joins j) is.1 ∙ (behind_count j.count (lists_of_joins j) place ∙ get_or_from_slice_get (lists_of_joins j) place list [] there),
    )

last_there : (lists : List (List ℕ)) (last : List ℕ) (place : ℕ) → place ≡ length lists → slice_get (lists ++ (last ∷ [])) place ≡ Some last
last_there [] last place is = ap (slice_get (last ∷ [])) is
last_there (l ∷ lists) last zero is = absurd (omega (arith, is))
last_there (l ∷ lists) last (suc place) is = last_there lists last place (omega (arith, is))

-- a list that is put behind the others
pub new_stands : (old new : Joins) (list : List ℕ) (place : ℕ) (number : Option ℕ) (P : Type 0) → SomeIff number P (new.count + place) → lists_of_joins new ≡ lists_of_joins old ++ (list ∷ []) → place ≡ length old.lists.items → MayStandForList new list number
new_stands old new list place number P is grown at = found_stands new list place number P is
    (ap (λ ls. slice_get ls place) grown ∙ last_there (lists_of_joins old) list place (at ∙ sym (length-map old.lists.items (λ l. l.items))))

pub list_there : (j : Joins) (seen : List (Vec ℕ Global)) (place : ℕ) (other : Vec ℕ Global) (list : List ℕ) → seen ≡ j.lists.items → place < length seen → other ≡ get_or seen place other → other.items ≡ list → slice_get (lists_of_joins j) place ≡ Some list
list_there j seen place other list same less here is =
    slice_get-map (λ (l : Vec ℕ Global). l.items) j.lists.items place ∙ (ap (seen_as (λ (l : Vec ℕ Global). l.items)) (ap (λ (ls : List (Vec ℕ Global)). slice_get ls place) (sym same) ∙ slice_get_read seen (length seen) place other refl less here) ∙ ap Some is)

-- the list of a number that is one of a list
module _ (j : Joins) (number : ℕ) (seen : List (Vec ℕ Global)) (past : j.count ≤ number) (same : seen ≡ j.lists.items) (less : number - j.count < length seen) where
  back : j.count + (number - j.count) ≡ number
  back = omega (arith, past)

  pub number_of_list : number < j.count + length j.lists.items
  number_of_list = let long : length seen ≡ length j.lists.items = ap length same in omega (arith, past, less, long)

  pub list_of_number : (other : Vec ℕ Global) (list : List ℕ) → other ≡ get_or seen (number - j.count) other → list ≡ other.items → list ≡ sets_in_joins j number
  list_of_number other list here is =
      is ∙ sym (ap (sets_in_joins j) (sym back) ∙ (behind_count j.count (lists_of_joins j) (number - j.count) ∙ get_or_from_slice_get (lists_of_joins j) (number - j.count) other.items []
      (list_there j seen (number - j.count) other other.items same less here refl)))
