-- The possible types where a condition stands: those object types to which it applies, in the order of the schema.
use Rattle.std.proofs.Common.{ℕ, zero, suc, ◌+◌, ◌≡◌, ◌<◌, ◌≤◌, ◌↔◌, ◌⊎◌, inl, inr, Bool, true, false, ◌||◌, if◌then◌else◌, nat_eq, List, [], ◌∷◌, length, get_or, refl, sym, ap, ap₂, ◌∙◌, subst, arith, true≢false}
use Rattle.std.specs.List.{list_any}
use Rattle.std.proofs.lemmas.Bool.{cases_Bool, cases_lt, eqb-true, eq-eqb}
use Rattle.std.proofs.lemmas.List.{get_or_past}
use Rattle.schema_rules.specs.Kinds.{is_object}
use Rattle.schema_model.specs.SchemaData.{TypeData, SchemaData, type_at, applies_to, applies, numbers_from, is_possible, possible_types, all_possible, possible, IsPossibleType}

abbrev Test : Type 0
Test = ℕ → TypeData → Bool

-- the numbers behind a first type, which has one of its own where it passes
abbrev before_numbers : Bool → ℕ → List ℕ → List ℕ
before_numbers b n ns = if b then n ∷ ns else ns

abbrev has : ℕ → List ℕ → Bool
has o ns = list_any (nat_eq o) ns

or_cases : (a b : Bool) → (a || b) ≡ true → (a ≡ true) ⊎ (b ≡ true)
or_cases true b e = inl refl
or_cases false b e = inr e

or_behind : (a b : Bool) → b ≡ true → (a || b) ≡ true
or_behind true b e = refl
or_behind false b e = e

or_front : (a b : Bool) → a ≡ true → (a || b) ≡ true
or_front a b e = ap (λ x. x || b) e

-- ---- what is found passes

abbrev Passing : ℕ → Test → List TypeData → TypeData → ℕ → Type 0
Passing n test types other o = (k : ℕ) × (k < length types) × (o ≡ n + k) × (test o (get_or types k other) ≡ true)

passing_later : (n : ℕ) (test : Test) (t : TypeData) (types : List TypeData) (other : TypeData) (o : ℕ) → Passing (n + 1) test types other o → Passing n test (t ∷ types) other o
passing_later n test t types other o p = let h = p.1 in let e = p.2 in (suc p.0, omega (arith, h), omega (arith, e), p.3)

found : (n : ℕ) (test : Test) (types : List TypeData) (other : TypeData) (o : ℕ) → has o (numbers_from n test types) ≡ true → Passing n test types other o
found n test [] other o e = absurd (true≢false (sym e))
found n test (t ∷ types) other o e = by (found (n + 1) test types other o) (test n t) refl e
  where
    by : (has o (numbers_from (n + 1) test types) ≡ true → Passing (n + 1) test types other o) → (b : Bool) → test n t ≡ b → has o (before_numbers b n (numbers_from (n + 1) test types)) ≡ true → Passing n test (t ∷ types) other o
    by behind true passes there = elim (or_cases (nat_eq o n) (has o (numbers_from (n + 1) test types)) there) [
      | inl here ↦ let same = eqb-true o n here in (0, omega arith, omega (arith, same), subst (λ m. test m t ≡ true) (sym same) passes)
      | inr later ↦ passing_later n test t types other o (behind later)
    ]
    by behind false fails there = passing_later n test t types other o (behind there)

-- ---- what passes is found

listed : (n : ℕ) (test : Test) (types : List TypeData) (other : TypeData) (o k : ℕ) → k < length types → o ≡ n + k → test o (get_or types k other) ≡ true → has o (numbers_from n test types) ≡ true
listed n test [] other o k h e p = absurd (omega (arith, h))
listed n test (t ∷ types) other o zero h e p =
    let same : o ≡ n = omega (arith, e) in
    ap (λ b. has o (before_numbers b n (numbers_from (n + 1) test types))) (subst (λ m. test m t ≡ true) same p) ∙ or_front (nat_eq o n) (has o (numbers_from (n + 1) test types)) (eq-eqb o n same)
listed n test (t ∷ types) other o (suc k) h e p = by (test n t) (listed (n + 1) test types other o k (omega (arith, h)) (omega (arith, e)) p)
  where
    by : (b : Bool) → has o (numbers_from (n + 1) test types) ≡ true → has o (before_numbers b n (numbers_from (n + 1) test types)) ≡ true
    by true later = or_behind (nat_eq o n) (has o (numbers_from (n + 1) test types)) later
    by false later = later

-- ---- in order

at_least : (n : ℕ) (test : Test) (types : List TypeData) (i : ℕ) → i < length (numbers_from n test types) → n ≤ get_or (numbers_from n test types) i 0
at_least n test [] i h = absurd (omega (arith, h))
at_least n test (t ∷ types) i h = by (at_least (n + 1) test types) (test n t) i h
  where
    by : ((k : ℕ) → k < length (numbers_from (n + 1) test types) → n + 1 ≤ get_or (numbers_from (n + 1) test types) k 0) → (b : Bool) (j : ℕ)
        → j < length (before_numbers b n (numbers_from (n + 1) test types)) → n ≤ get_or (before_numbers b n (numbers_from (n + 1) test types)) j 0
    by behind true zero w = omega arith
    by behind true (suc j) w = let l = behind j (omega (arith, w)) in omega (arith, l)
    by behind false j w = let l = behind j w in omega (arith, l)

rising : (n : ℕ) (test : Test) (types : List TypeData) (i j : ℕ) → i < j → j < length (numbers_from n test types) → get_or (numbers_from n test types) i 0 < get_or (numbers_from n test types) j 0
rising n test [] i j less h = absurd (omega (arith, h))
rising n test (t ∷ types) i j less h = by (rising (n + 1) test types) (test n t) i j less h
  where
    by : ((k m : ℕ) → k < m → m < length (numbers_from (n + 1) test types) → get_or (numbers_from (n + 1) test types) k 0 < get_or (numbers_from (n + 1) test types) m 0) → (b : Bool) (i j : ℕ)
        → i < j → j < length (before_numbers b n (numbers_from (n + 1) test types)) → get_or (before_numbers b n (numbers_from (n + 1) test types)) i 0 < get_or (before_numbers b n (numbers_from (n + 1) test types)) j 0
    by behind true i zero w v = absurd (omega (arith, w))
    by behind true zero (suc j) w v = let l = at_least (n + 1) test types j (omega (arith, v)) in omega (arith, l)
    by behind true (suc i) (suc j) w v = behind i j (omega (arith, w)) (omega (arith, v))
    by behind false i j w v = behind i j w v

-- ---- of all types

pub all_length : (n : ℕ) (all types : List TypeData) → length (all_possible n all types) ≡ length types
all_length n all [] = refl
all_length n all (t ∷ types) = ap suc (all_length (n + 1) all types)

at_all : (n : ℕ) (all types : List TypeData) (other : TypeData) (c : ℕ) → c < length types → get_or (all_possible n all types) c [] ≡ possible_types all (n + c) (get_or types c other)
at_all n all [] other c h = absurd (omega (arith, h))
at_all n all (t ∷ types) other zero h = let e : n ≡ n + 0 = omega arith in ap (λ m. possible_types all m t) e
at_all n all (t ∷ types) other (suc c) h = let e : (n + 1) + c ≡ n + suc c = omega arith in at_all (n + 1) all types other c (omega (arith, h)) ∙ ap (λ m. possible_types all m (get_or types c other)) e

possible_at : (s : SchemaData) (c : ℕ) → c < length s.types → possible s c ≡ possible_types s.types c (type_at s c)
possible_at s c h = let e : 0 + c ≡ c = omega arith in at_all 0 s.types s.types s.other_type c h ∙ ap (λ m. possible_types s.types m (type_at s c)) e

none_past : (s : SchemaData) (c : ℕ) → length s.types ≤ c → possible s c ≡ []
none_past s c past = get_or_past (all_possible 0 s.types s.types) c [] (let l = all_length 0 s.types s.types in omega (arith, l, past))

if_both : (a b : Bool) → (if a then b else false) ≡ true → (a ≡ true) × (b ≡ true)
if_both true b e = (refl, e)
if_both false b e = absurd (true≢false (sym e))

both_if : (a b : Bool) → a ≡ true → b ≡ true → (if a then b else false) ≡ true
both_if a b p q = ap₂ (λ (x y : Bool). if x then y else false) p q

there : (s : SchemaData) (c o : ℕ) → c < length s.types → has o (possible_types s.types c (type_at s c)) ≡ true → IsPossibleType s c o
there s c o h e =
    let p = found 0 (is_possible (type_at s c) c) s.types s.other_type o e in
    let same : o ≡ p.0 = (let q = p.2 in omega (arith, q)) in
    let parts = if_both (is_object (type_at s p.0).kind) (applies_to (type_at s c).kind c o (type_at s c) (type_at s p.0)) p.3 in
    record {
      condition = h;
      type = let w = p.1 in omega (arith, same, w);
      object = subst (λ m. is_object (type_at s m).kind ≡ true) (sym same) parts.0;
      applies_there = subst (λ m. applies_to (type_at s c).kind c o (type_at s c) (type_at s m) ≡ true) (sym same) parts.1;
    }

pub possible_iff : (s : SchemaData) (c o : ℕ) → (has o (possible s c) ≡ true) ↔ IsPossibleType s c o
possible_iff s c o = (
  λ e. elim (cases_lt c (length s.types)) [
    | inl h ↦ there s c o h (subst (λ ns. has o ns ≡ true) (possible_at s c h) e)
    | inr past ↦ absurd (true≢false (sym (subst (λ ns. has o ns ≡ true) (none_past s c past) e)))
  ],
  λ p. subst (λ ns. has o ns ≡ true) (sym (possible_at s c p.condition))
      (listed 0 (is_possible (type_at s c) c) s.types s.other_type o o p.type (omega arith)
      (both_if (is_object (type_at s o).kind) (applies_to (type_at s c).kind c o (type_at s c) (type_at s o)) p.object p.applies_there)),
)

pub possible_rising : (s : SchemaData) (c i j : ℕ) → i < j → j < length (possible s c) → get_or (possible s c) i 0 < get_or (possible s c) j 0
possible_rising s c i j less h = elim (cases_lt c (length s.types)) [
  | inl w ↦ subst (λ ns. j < length ns → get_or ns i 0 < get_or ns j 0) (sym (possible_at s c w)) (rising 0 (is_possible (type_at s c) c) s.types i j less) h
  | inr past ↦ let l = ap length (none_past s c past) in absurd (omega (arith, l, h))
]
