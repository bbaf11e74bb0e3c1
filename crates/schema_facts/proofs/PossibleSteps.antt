-- Possible types, found by lists that are turned over.
use Rattle.std.proofs.Common.{ℕ, zero, suc, ◌+◌, ◌≡◌, ◌<◌, ◌≤◌, ◌||◌, ◌&&◌, if◌then◌else◌, Bool, true, false, true≢false, nat_eq, List, [], ◌∷◌, length, get_or, map, Option, None, Some, bytes_eq, refl, sym, ap, ap₂, ◌∙◌, inl, inr, subst, arith}
use Rattle.std.specs.List.{list_any, position_from}
use Rattle.std.proofs.lemmas.Bool.{cases_Bool, eq-eqb, eqb-true}
use Rattle.std.proofs.lemmas.List.{length-map}
use Rattle.std.proofs.lemmas.Slice.Eq.{bytes_eq-Decides}
use Rattle.gql_base.specs.names.Names.{has_name}
use Rattle.schema_reader.specs.Schemas.{NameText, BodyTree, schema_body, scalar_body, object_body, interface_body, union_body, enum_body, input_body, directive_body}
use Rattle.schema_facts.specs.Facts.{KnownTree, built_in, defined, known_name, definition_name, definition_body, or_past, number_named, numbers_from, implements, names_interface, same_name, is_member, is_object_body, possible_types, possible_by}
use Rattle.schema_facts.specs.Possible.{list_at, lists_with, interfaces_in, members_in, implemented, joined, joining, found_in, found_of, found_from}

-- ---- names and their numbers

same_bytes : (a : List ℕ) → bytes_eq a a ≡ true
same_bytes a = (bytes_eq-Decides a a).1 refl

swapped : (a b : List ℕ) → bytes_eq a b ≡ bytes_eq b a
swapped a b = elim (cases_Bool (bytes_eq a b)) [
  | inl is ↦ let e = (bytes_eq-Decides a b).0 is in is ∙ sym (ap (λ x. bytes_eq b x) e ∙ same_bytes b)
  | inr un ↦ elim (cases_Bool (bytes_eq b a)) [
    | inl is ↦ let e = (bytes_eq-Decides b a).0 is in absurd (true≢false (sym (ap (λ x. bytes_eq a x) e ∙ same_bytes a) ∙ un))
    | inr is ↦ un ∙ sym is
  ]
]

abbrev Named : NameText → KnownTree → Bool
Named name t = bytes_eq (known_name t) name

abbrev or_end : ℕ → Option ℕ → ℕ
or_end e None = e
or_end e (Some n) = n

abbrev before_place : Bool → ℕ → Option ℕ → Option ℕ
before_place b k later = if b then Some k else later

at_least : (e k : ℕ) (test : KnownTree → Bool) (types : List KnownTree) → k + length types ≤ e → k ≤ or_end e (position_from test k types)
at_least e k test [] h = omega (arith, h)
at_least e k test (t ∷ types) h = by (at_least e (k + 1) test types (omega (arith, h))) (test t)
  where
    by : k + 1 ≤ or_end e (position_from test (k + 1) types) → (b : Bool) → k ≤ or_end e (before_place b k (position_from test (k + 1) types))
    by later true = omega arith
    by later false = omega (arith, later)

less_unlike : (a b : ℕ) → a < b → nat_eq a b ≡ false
less_unlike a b less = elim (cases_Bool (nat_eq a b)) [
  | inl same ↦ let e = eqb-true a b same in absurd (omega (arith, less, e))
  | inr other ↦ other
]

more_unlike : (a b : ℕ) → b < a → nat_eq a b ≡ false
more_unlike a b less = elim (cases_Bool (nat_eq a b)) [
  | inl same ↦ let e = eqb-true a b same in absurd (omega (arith, less, e))
  | inr other ↦ other
]

-- two names have one number just where they are the same, if the first is the name of a type
same_place : (e k : ℕ) (a b : NameText) (types : List KnownTree) → k + length types ≤ e → list_any (Named a) types ≡ true
    → nat_eq (or_end e (position_from (Named a) k types)) (or_end e (position_from (Named b) k types)) ≡ bytes_eq a b
same_place e k a b [] h there = absurd (true≢false (sym there))
same_place e k a b (t ∷ types) h there = by (same_place e (k + 1) a b types (omega (arith, h))) (bytes_eq (known_name t) a) refl (bytes_eq (known_name t) b) refl
  where
    by : (list_any (Named a) types ≡ true → nat_eq (or_end e (position_from (Named a) (k + 1) types)) (or_end e (position_from (Named b) (k + 1) types)) ≡ bytes_eq a b) → (is_a : Bool) → bytes_eq (known_name t) a ≡ is_a → (is_b : Bool) → bytes_eq (known_name t) b ≡ is_b
        → nat_eq (or_end e (before_place is_a k (position_from (Named a) (k + 1) types))) (or_end e (before_place is_b k (position_from (Named b) (k + 1) types))) ≡ bytes_eq a b
    by later true is true too = eq-eqb k k refl ∙ sym (ap (λ n. bytes_eq n b) (sym ((bytes_eq-Decides (known_name t) a).0 is)) ∙ too)
    by later true is false un =
        let l = at_least e (k + 1) (Named b) types (omega (arith, h)) in
        less_unlike k (or_end e (position_from (Named b) (k + 1) types)) (omega (arith, l)) ∙ sym (ap (λ n. bytes_eq n b) (sym ((bytes_eq-Decides (known_name t) a).0 is)) ∙ un)
    by later false un true is =
        let l = at_least e (k + 1) (Named a) types (omega (arith, h)) in
        more_unlike (or_end e (position_from (Named a) (k + 1) types)) k (omega (arith, l)) ∙ sym (swapped a b ∙ ap (λ n. bytes_eq n a) (sym ((bytes_eq-Decides (known_name t) b).0 is)) ∙ un)
    by later false un false other = later (sym (ap (λ c. c || list_any (Named a) types) un) ∙ there)

or_end_past : (types : List KnownTree) (o : Option ℕ) → or_past types o ≡ or_end (length types) o
or_end_past types None = refl
or_end_past types (Some n) = refl

same_number : (types : List KnownTree) (a b : NameText) → list_any (Named a) types ≡ true → nat_eq (number_named types a) (number_named types b) ≡ bytes_eq a b
same_number types a b there =
    ap₂ nat_eq (or_end_past types (position_from (Named a) 0 types)) (or_end_past types (position_from (Named b) 0 types)) ∙ same_place (length types) 0 a b types (omega arith) there

number_within : (types : List KnownTree) (name : NameText) (k e : ℕ) → list_any (Named name) types ≡ true → or_end e (position_from (Named name) k types) < k + length types
number_within [] name k e there = absurd (true≢false (sym there))
number_within (t ∷ types) name k e there = by (number_within types name (k + 1) e) (Named name t) refl
  where
    by : (list_any (Named name) types ≡ true → or_end e (position_from (Named name) (k + 1) types) < (k + 1) + length types) → (b : Bool) → Named name t ≡ b → or_end e (before_place b k (position_from (Named name) (k + 1) types)) < k + suc (length types)
    by later true is = omega arith
    by later false un = let l = later (sym (ap (λ c. c || list_any (Named name) types) un) ∙ there) in omega (arith, l)

within : (types : List KnownTree) (name : NameText) → list_any (Named name) types ≡ true → number_named types name < length types
within types name there =
    let same = or_end_past types (position_from (Named name) 0 types) in
    let less = number_within types name 0 (length types) there in
    omega (arith, same, less)

among_numbers : (types : List KnownTree) (name : NameText) (names : List NameText) → list_any (Named name) types ≡ true
    → list_any (nat_eq (number_named types name)) (map (number_named types) names) ≡ list_any (bytes_eq name) names
among_numbers types name [] there = refl
among_numbers types name (of ∷ names) there = ap₂ (λ a b. a || b) (same_number types name of there) (among_numbers types name names there)

-- ---- the types of a list

-- each of these types is among the types
abbrev Standing : List KnownTree → List KnownTree → Type 0
Standing types [] = Unit {0}
Standing types (t ∷ others) = (list_any (Named (known_name t)) types ≡ true) × Standing types others

or_front : (a b : Bool) → b ≡ true → a || b ≡ true
or_front true b h = refl
or_front false b h = h

standing_more : (t : KnownTree) (types others : List KnownTree) → Standing types others → Standing (t ∷ types) others
standing_more t types [] s = tt
standing_more t types (x ∷ others) s = (or_front (Named (known_name x) t) (list_any (Named (known_name x)) types) s.0, standing_more t types others s.1)

pub all_stand : (types : List KnownTree) → Standing types types
all_stand [] = tt
all_stand (t ∷ types) = (ap (λ c. c || list_any (Named (known_name t)) types) (same_bytes (known_name t)), standing_more t types types (all_stand types))

-- ---- lists that hold a number

-- the lists of types hold a number where the types pass a test
with_those : (n held : ℕ) (list : KnownTree → List ℕ) (test : KnownTree → Bool) (types all : List KnownTree) → Standing all types
    → ((t : KnownTree) → list_any (Named (known_name t)) all ≡ true → list_any (nat_eq held) (list t) ≡ test t) → lists_with n held (map list types) ≡ numbers_from n test types
with_those n held list test [] all s same = refl
with_those n held list test (t ∷ types) all s same =
    ap (λ b. if b then n ∷ lists_with (n + 1) held (map list types) else lists_with (n + 1) held (map list types)) (same t s.0) ∙ by (with_those (n + 1) held list test types all s.1 same) (test t)
  where
    by : lists_with (n + 1) held (map list types) ≡ numbers_from (n + 1) test types → (b : Bool) → (if b then n ∷ lists_with (n + 1) held (map list types) else lists_with (n + 1) held (map list types)) ≡ (if b then n ∷ numbers_from (n + 1) test types else numbers_from (n + 1) test types)
    by later true = ap (λ l. n ∷ l) later
    by later false = later

lists_later : (n held v : ℕ) (lists : List (List ℕ)) → v < n → list_any (nat_eq v) (lists_with n held lists) ≡ false
lists_later n held v [] less = refl
lists_later n held v (l ∷ lists) less = by (lists_later (n + 1) held v lists (omega (arith, less))) (list_any (nat_eq held) l)
  where
    by : list_any (nat_eq v) (lists_with (n + 1) held lists) ≡ false → (b : Bool) → list_any (nat_eq v) (if b then n ∷ lists_with (n + 1) held lists else lists_with (n + 1) held lists) ≡ false
    by later true = ap (λ c. c || list_any (nat_eq v) (lists_with (n + 1) held lists)) (less_unlike v n less) ∙ later
    by later false = later

-- a list's number stands among those of the lists that hold a number just where it holds it
holds_it : (n held k v : ℕ) (lists : List (List ℕ)) → v ≡ n + k → k < length lists → list_any (nat_eq v) (lists_with n held lists) ≡ list_any (nat_eq held) (list_at lists k)
holds_it n held k v [] is h = absurd (omega (arith, h))
holds_it n held zero v (l ∷ lists) is h = by (list_any (nat_eq held) l)
  where
    same : v ≡ n
    same = omega (arith, is)

    by : (b : Bool) → list_any (nat_eq v) (if b then n ∷ lists_with (n + 1) held lists else lists_with (n + 1) held lists) ≡ b
    by true = ap (λ c. c || list_any (nat_eq v) (lists_with (n + 1) held lists)) (eq-eqb v n same)
    by false = lists_later (n + 1) held v lists (omega (arith, same))
holds_it n held (suc k) v (l ∷ lists) is h = by (holds_it (n + 1) held k v lists (omega (arith, is)) (omega (arith, h))) (list_any (nat_eq held) l)
  where
    by : list_any (nat_eq v) (lists_with (n + 1) held lists) ≡ list_any (nat_eq held) (list_at lists k) → (b : Bool) → list_any (nat_eq v) (if b then n ∷ lists_with (n + 1) held lists else lists_with (n + 1) held lists) ≡ list_any (nat_eq held) (list_at lists k)
    by later true = ap (λ c. c || list_any (nat_eq v) (lists_with (n + 1) held lists)) (more_unlike v n (omega (arith, is))) ∙ later
    by later false = later

list_of : (list : KnownTree → List ℕ) (types : List KnownTree) (k : ℕ) (t : KnownTree) → k < length types → t ≡ get_or types k t → list_at (map list types) k ≡ list t
list_of list [] k t h is = absurd (omega (arith, h))
list_of list (x ∷ types) zero t h is = ap list (sym is)
list_of list (x ∷ types) (suc k) t h is = list_of list types k t (omega (arith, h)) is

-- ---- interfaces

interface_held : (types : List KnownTree) (name : NameText) → list_any (Named name) types ≡ true → (t : KnownTree) → list_any (nat_eq (number_named types name)) (implemented types t) ≡ implements name t
interface_held types name there (built_in scalar) = refl
interface_held types name there (defined d) = by (definition_body d)
  where
    by : (body : BodyTree) → list_any (nat_eq (number_named types name)) (map (number_named types) (interfaces_in body)) ≡ names_interface name body
    by (object_body interfaces fields) = among_numbers types name interfaces there
    by (schema_body roots) = refl
    by scalar_body = refl
    by (interface_body interfaces fields) = refl
    by (union_body members) = refl
    by (enum_body values) = refl
    by (input_body fields) = refl
    by (directive_body arguments repeatable locations) = refl

-- ---- unions

swapped_any : (name : NameText) (names : List NameText) → list_any (bytes_eq name) names ≡ has_name same_name names name
swapped_any name [] = refl
swapped_any name (of ∷ names) = ap₂ (λ a b. a || b) (swapped name of) (swapped_any name names)

module _ (types : List KnownTree) (unions : List (List ℕ)) (turned : (v : ℕ) → v < length (map (joined types) types) → list_at unions v ≡ lists_with 0 v (map (joined types) types)) where
  -- the unions of an object type hold a union's number where it is a member of it
  members_held : (n : ℕ) (t : KnownTree) (members : List NameText) → n < length types → t ≡ get_or types n t → joined types t ≡ map (number_named types) members
      → (k : KnownTree) → list_any (Named (known_name k)) types ≡ true → list_any (nat_eq n) (joining types unions k) ≡ is_member members k
  members_held n t members h is of (built_in scalar) there = refl
  members_held n t members h is of (defined d) there = by (is_object_body (definition_body d))
    where
      same_length : length (map (joined types) types) ≡ length types
      same_length = length-map types (joined types)

      held : list_any (nat_eq n) (list_at unions (number_named types (definition_name d))) ≡ has_name same_name members (definition_name d)
      held =
          ap (list_any (nat_eq n)) (turned (number_named types (definition_name d)) (subst (λ m. (number_named types (definition_name d)) < m) (sym same_length) (within types (definition_name d) there)))
          ∙ holds_it 0 (number_named types (definition_name d)) n n (map (joined types) types) (omega arith) (subst (λ m. n < m) (sym same_length) h)
          ∙ ap (list_any (nat_eq (number_named types (definition_name d)))) (list_of (joined types) types n t h is ∙ of) ∙ among_numbers types (definition_name d) members there ∙ swapped_any (definition_name d) members

      by : (b : Bool) → list_any (nat_eq n) (if b then list_at unions (number_named types (definition_name d)) else []) ≡ b && has_name same_name members (definition_name d)
      by true = held
      by false = refl

  module _ (implementing members : List (List ℕ))
      (first : (v : ℕ) → v < length (map (implemented types) types) → list_at implementing v ≡ lists_with 0 v (map (implemented types) types))
      (second : (v : ℕ) → v < length (map (joining types unions) types) → list_at members v ≡ lists_with 0 v (map (joining types unions) types)) where
    implementing_found : (name : NameText) → list_any (Named name) types ≡ true → list_at implementing (number_named types name) ≡ numbers_from 0 (implements name) types
    implementing_found name there =
        first (number_named types name) (subst (λ m. number_named types name < m) (sym (length-map types (implemented types))) (within types name there))
        ∙ with_those 0 (number_named types name) (implemented types) (implements name) types types (all_stand types) (λ t _. interface_held types name there t)

    members_found : (n : ℕ) (t : KnownTree) (of : List NameText) → n < length types → t ≡ get_or types n t → joined types t ≡ map (number_named types) of
        → list_at members n ≡ numbers_from 0 (is_member of) types
    members_found n t of h is same =
        second n (subst (λ m. n < m) (sym (length-map types (joining types unions))) h)
        ∙ with_those 0 n (joining types unions) (is_member of) types types (all_stand types) (members_held n t of h is same)

    found_there : (n : ℕ) (t : KnownTree) → n < length types → t ≡ get_or types n t → list_any (Named (known_name t)) types ≡ true → found_of types implementing members n t ≡ possible_types types t
    found_there n (built_in name) h is there = refl
    found_there n (defined d) h is there = by (definition_body d) refl
      where
        by : (body : BodyTree) → definition_body d ≡ body → found_in types implementing members n (definition_name d) body ≡ possible_by types (definition_name d) body
        by (interface_body interfaces fields) same = implementing_found (definition_name d) there
        by (union_body of) same = members_found n (defined d) of h is (ap (λ b. map (number_named types) (members_in b)) same)
        by (schema_body roots) same = refl
        by scalar_body same = refl
        by (object_body interfaces fields) same = refl
        by (enum_body values) same = refl
        by (input_body fields) same = refl
        by (directive_body arguments repeatable locations) same = refl

    all_found : (n : ℕ) (others : List KnownTree) → Standing types others → ((i : ℕ) (t : KnownTree) → i < length others → t ≡ get_or others i t → (n + i < length types) × (t ≡ get_or types (n + i) t))
        → found_from types implementing members n others ≡ map (possible_types types) others
    all_found n [] s at = refl
    all_found n (t ∷ others) s at =
        let here = at 0 t (omega arith) refl in
        let zero_more : n + 0 ≡ n = omega arith in
        ap₂ (λ l ls. l ∷ ls) (found_there n t (subst (λ m. m < length types) zero_more here.0) (subst (λ m. t ≡ get_or types m t) zero_more here.1) s.0)
        (all_found (n + 1) others s.1 (λ i x h is.
        let later = at (suc i) x (omega (arith, h)) is in
        let one_more : n + suc i ≡ (n + 1) + i = omega arith in
        (subst (λ m. m < length types) one_more later.0, subst (λ m. x ≡ get_or types m x) one_more later.1)))

    pub found_possible : found_from types implementing members 0 types ≡ map (possible_types types) types
    found_possible = all_found 0 types (all_stand types) (λ i t h is.
        let same : i ≡ 0 + i = omega arith in
        (subst (λ m. m < length types) same h, subst (λ m. t ≡ get_or types m t) same is))
