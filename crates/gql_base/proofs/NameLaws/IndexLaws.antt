-- Indexes of lists by their names.
use Rattle.std.proofs.Common.{ℕ, ◌≡◌, ◌<◌, ◌≤◌, ◌-◌, ◌+◌, arith, drop, get_or, Bool, true, false, List, [], ◌∷◌, length, map, find, Option, None, Some, inl, inr, refl, sym, ap, ap₂, ◌∙◌}
use Rattle.std.specs.Prelude.{option_copied, is_some, not, ◌&&◌, slice_get, MatchOption, IfSome}
use Rattle.std.specs.Borrow.{Bor}
use Rattle.std.specs.List.{list_any, position_from, position_or_len}
use Rattle.std.specs.Map.{update}
use Rattle.std.specs.Str.{bytes_eq}
use Rattle.std.proofs.Math.Dec.{ltb}
use Rattle.std.specs.Cmp.Lexicographic.{nat_list_eq_equiv}
use Rattle.std.proofs.Math.Bool.{and_comm}
use Rattle.std.proofs.lemmas.Bool.{cases_Bool, ltb-true, ltb-false}
use Rattle.std.proofs.lemmas.Iterator.Adapters.{position_from-zero}
use Rattle.std.proofs.lemmas.List.{drop_more}
use Rattle.std.proofs.lemmas.List.Folds.{find_at}
use Rattle.std.proofs.lemmas.Option.{slice_get_past, slice_get_read}
use Rattle.gql_base.specs.names.Names.{are_distinct, has_name}
use Rattle.gql_base.specs.names.Indexes.{FindsFrom}

-- with one more in front, the first of a name is this one, or what was found
pub put_first : {T : Type 0} (name_of : T → List ℕ) (at : ℕ) (old new : List ℕ → Option ℕ) (item : T) (items : List T) (key : List ℕ) → key ≡ name_of item
    → ((name : List ℕ) → new name ≡ update bytes_eq old key (Some at) name) → FindsFrom (at + 1) old name_of items → FindsFrom at new name_of (item ∷ items)
put_first name_of at old new item items key e put finds = λ name. put name ∙ elim (cases_Bool (bytes_eq (name_of item) name)) [
  | inl t ↦ rw (e, t) refl
  | inr t ↦ rw (e, t) (finds name)
]

-- something passes where the first that passes is there
pub is_there : {T : Type 0} (test : T → Bool) (n : ℕ) (items : List T) → is_some (position_from test n items) ≡ list_any test items
is_there test n [] = refl
is_there test n (item ∷ items) = elim (cases_Bool (test item)) [
  | inl t ↦ rw t refl
  | inr t ↦ rw t (is_there test (n + 1) items)
]

-- what stands at a place, where there is one
abbrev pub standing : {T : Type 0} → List T → Option ℕ → Option T
standing items None = None
standing items (Some at) = slice_get items at

pub found : {T : Type 0} (test : T → Bool) (items : List T) → find test items ≡ standing items (position_from test 0 items)
found test items = find_at test items ∙ (elim (cases_Bool (ltb (position_or_len test items) (length items))) [
  | inl t ↦ rw t refl
  | inr t ↦ rw t (slice_get_past items (position_or_len test items) (ltb-false _ _ t))
] ∙ ap (standing items) (position_from-zero test items))

pub is_within : {T : Type 0} (test : T → Bool) (items : List T) → IfSome (position_from test 0 items) (λ at. at < length items)
is_within test items = rw (sym (position_from-zero test items)) (elim (cases_Bool (ltb (position_or_len test items) (length items))) [
  | inl t ↦ rw t (ltb-true _ _ t)
  | inr t ↦ rw t tt
])

-- what a slice gives at a place is what stands there
pub got : {T : Type 0} (Q : Bor T → Type 0) (r : Option (Bor T)) (items : List T) (at : ℕ) → MatchOption r (length items ≤ at) (λ x. (at < length items) × Q x) → IfSome r (λ x. x.now ≡ get_or items at x.now) → option_copied r ≡ slice_get items at
got Q None items at m s = sym (slice_get_past items at m)
got Q (Some x) items at m s = sym (slice_get_read items (length items) at x.now refl m.0 s)

names_same : {T : Type 0} (name_of : T → List ℕ) (items : List T) (name : List ℕ) → has_name name_of items name ≡ list_any (bytes_eq name) (map name_of items)
names_same name_of [] name = refl
names_same name_of (item ∷ items) name = elim (cases_Bool (bytes_eq name (name_of item))) [
  | inl t ↦ let s = nat_list_eq_equiv.symm (name_of item) name ∙ t in rw (s, t) refl
  | inr t ↦ let s = nat_list_eq_equiv.symm (name_of item) name ∙ t in rw (s, t) (names_same name_of items name)
]

pub copied_some : {T : Type 0} (o : Option (Bor T)) → is_some (option_copied o) ≡ is_some o
copied_some None = refl
copied_some (Some item) = refl

flipped : (a b : Bool) → a ≡ not b → b ≡ not a
flipped a true e = ap not (sym e)
flipped a false e = ap not (sym e)

-- all are distinct where the rest are, and none of the rest has the name of the first
pub still_distinct : {T : Type 0} (name_of : T → List ℕ) (n : ℕ) (places : List ℕ → Option ℕ) (item : T) (items : List T) (key : List ℕ) (later : Option ℕ) (distinct none : Bool) → key ≡ name_of item
    → later ≡ places key → is_some later ≡ not none → FindsFrom n places name_of items → distinct ≡ are_distinct (map name_of items)
    → distinct && none ≡ are_distinct (map name_of (item ∷ items))
still_distinct name_of n places item items key later distinct none e l m finds d =
    let f : is_some later ≡ list_any (bytes_eq key) (map name_of items) = ap is_some (l ∙ finds key) ∙ (is_there (λ item. bytes_eq (name_of item) key) n items ∙ names_same name_of items key) in
    and_comm distinct none ∙ ap₂ (λ a b. a && b) (flipped _ none m ∙ (ap not f ∙ ap (λ name. not (list_any (bytes_eq name) (map name_of items))) e)) d

pub dropped_before : {T : Type 0} (items : List T) (at : ℕ) (item : T) → 0 < at → at ≤ length items → item ≡ get_or items (at - 1) item → drop (at - 1) items ≡ item ∷ drop at items
dropped_before items at item p l e = drop_more items (at - 1) item (omega arith) ∙ ap₂ (λ x n. x ∷ drop n items) (sym e) (omega arith)
