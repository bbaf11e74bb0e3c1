-- What is read has integers of 64 bits, and keys in order, so that each stands once; and so have its members, which nest less deep.
use Rattle.std.proofs.Common.{◌≡◌, inl, inr, ◌∙◌, ℕ, zero, suc, ◌<◌, ◌≤◌, ◌^◌, ◌==◌, ◌&&◌, nat_lt, nat_le, slice_index, drop, pos, neg_ℤ, List, Bool, true, false, if◌then◌else◌, Option, Some, None, option_map, option_and_then, Ordering, Less, Equal, Greater, nat_cmp, refl, sym, subst, arith}
use Rattle.std.proofs.lemmas.Bool.{and_parts, ltb-true, leb-true}
use Rattle.std.proofs.lemmas.Option.{none-some, same_Some}
use Rattle.std.specs.Cmp.Lexicographic.{slice_cmp}
use Rattle.std.specs.Ordering.{match_ordering}
use Rattle.std.specs.Float.{binary64, float_is_finite}
use Rattle.std.specs.Float.Numeral.{minus, Parts, scan_numeral as scan, numeral_digits as digits_of, nearest_float as nearest}
use Rattle.json.specs.Lex.{tokens}
use Rattle.json.specs.Json as json
use Rattle.serde_json.specs.Data.{Num, unsigned, negative, float, Data, null, boolean, number, string, array, object, Items, no_items, item, Members, no_members, member, put, depth, members_depth}
use Rattle.serde_json.specs.Find.{get, get_member}
use Rattle.serde_json.specs.Read.{is_integer, float_of, number_from, number_of, of_json, of_items, of_members, max_depth, read}
use Rattle.serde_json.proofs.Nesting.{depth-read}
use Rattle.typename_rewrite.specs.ReadJson.{IsOf64Bits, ComesBefore, IsAsRead, ItemsAreAsRead, MembersAreAsRead}
use Rattle.typename_rewrite.proofs.KeysInOrder.{put_as_read}
use Rattle.acceptance.specs.Keys.{HasEachKeyOnce, ItemsHaveEachKeyOnce, MembersHaveEachKeyOnce}

-- what may be there holds P
abbrev Holds : {A : Type 0} → (A → Type 0) → Option A → Type 0
Holds P None = Unit {0}
Holds P (Some x) = P x

map_holds : {A B : Type 0} (P : A → Type 0) (Q : B → Type 0) (f : A → B) → ((x : A) → P x → Q (f x)) → (o : Option A) → Holds P o → Holds Q (option_map f o)
map_holds P Q f each None holds = tt
map_holds P Q f each (Some x) holds = each x holds

then_holds : {A B : Type 0} (P : A → Type 0) (Q : B → Type 0) (f : A → Option B) → ((x : A) → P x → Holds Q (f x)) → (o : Option A) → Holds P o → Holds Q (option_and_then f o)
then_holds P Q f each None holds = tt
then_holds P Q f each (Some x) holds = each x holds

anything : {A : Type 0} (o : Option A) → Holds (λ _. Unit {0}) o
anything None = tt
anything (Some x) = tt

-- ---- numbers

by_test : (test : Bool) (x y : Option Num) → (test ≡ true → Holds IsOf64Bits x) → Holds IsOf64Bits y → Holds IsOf64Bits (if test then x else y)
by_test true x y first second = first refl
by_test false x y first second = second

of_float : (sign : Bool) (p : Parts) → Holds IsOf64Bits (float_of sign p)
of_float sign p = by_test (float_is_finite (nearest binary64 sign p)) (Some (float (nearest binary64 sign p))) None (λ _. tt) tt

of_negative : (n : ℕ) → 0 < n → n ≤ 2 ^ 63 → IsOf64Bits (negative (neg_ℤ (pos n)))
of_negative zero some most = absurd (omega (arith, some))
of_negative (suc n) some most = omega (arith, most)

of_parts : (sign : Bool) (p : Parts) → Holds IsOf64Bits (number_from sign p)
of_parts false p =
    by_test (is_integer p && nat_lt (digits_of p) (2 ^ 64)) (Some (unsigned (digits_of p))) (float_of false p)
    (λ is. ltb-true (digits_of p) (2 ^ 64) (and_parts (is_integer p) (nat_lt (digits_of p) (2 ^ 64)) is).1)
    (of_float false p)
of_parts true p =
    by_test (is_integer p && nat_lt 0 (digits_of p) && nat_le (digits_of p) (2 ^ 63)) (Some (negative (neg_ℤ (pos (digits_of p))))) (float_of true p)
    (λ is.
    let last = and_parts _ _ is in
    let first = and_parts _ _ last.0 in
    of_negative (digits_of p) (ltb-true 0 (digits_of p) first.1) (leb-true (digits_of p) (2 ^ 63) last.1))
    (of_float true p)

of_text : (s : List ℕ) → Holds IsOf64Bits (number_of s)
unfolding number_of
of_text s = by_test (slice_index s 0 == minus) (number_from true (scan (drop 1 s))) (number_from false (scan s)) (λ _. of_parts true (scan (drop 1 s))) (of_parts false (scan s))

-- ---- values

mutual
  value_of : (j : json.Json) → Holds IsAsRead (of_json j)
  value_of json.null = tt
  value_of (json.boolean b) = tt
  value_of (json.number s) = map_holds IsOf64Bits IsAsRead number (λ n h. h) (number_of s) (of_text s)
  value_of (json.string s) = tt
  value_of (json.array js) = map_holds ItemsAreAsRead IsAsRead array (λ ds h. h) (of_items js) (items_of js)
  value_of (json.object ms) = map_holds MembersAreAsRead IsAsRead object (λ ds h. h) (of_members ms no_members) (members_of ms no_members tt)

  items_of : (js : json.Items) → Holds ItemsAreAsRead (of_items js)
  items_of json.no_items = tt
  items_of (json.item j js) =
      then_holds IsAsRead ItemsAreAsRead (λ d. option_map (item d) (of_items js)) (λ d h. map_holds ItemsAreAsRead ItemsAreAsRead (item d) (λ ds hs. (h, hs)) (of_items js) (items_of js)) (of_json j) (value_of j)

  members_of : (ms : json.Members) (found : Members) → MembersAreAsRead found → Holds MembersAreAsRead (of_members ms found)
  members_of json.no_members found are = are
  members_of (json.member key j ms) found are =
      then_holds IsAsRead MembersAreAsRead (λ d. of_members ms (put key d found)) (λ d h. members_of ms (put key d found) (put_as_read key d found h are)) (of_json j) (value_of j)

pub read_so : (text : List ℕ) (d : Data) → read text ≡ Some d → IsAsRead d
read_so text d is = subst (Holds IsAsRead) is (then_holds (λ _. Unit {0}) IsAsRead of_json (λ j h. value_of j) (option_and_then (λ p. json.if_last p.0 p.1) (json.value max_depth (tokens text))) (anything _))

-- ---- members

-- the value is as read, and nests within this
abbrev Part : ℕ → Data → Type 0
Part n d = IsAsRead d × (depth d ≤ n)

part_at : (o : Ordering) (n : ℕ) (d e : Data) (rest : Option Data) → Part n e → (rest ≡ Some d → Part n d) → match_ordering o rest (Some e) rest ≡ Some d → Part n d
part_at Less n d e rest one later found = later found
part_at Equal n d e rest one later found = subst (Part n) (same_Some e d found) one
part_at Greater n d e rest one later found = later found

part_of : (key : List ℕ) (n : ℕ) (d : Data) (ms : Members) → MembersAreAsRead ms → members_depth ms ≤ n → get_member key ms ≡ Some d → Part n d
part_of key n d no_members are within found = absurd (none-some d found)
part_of key n d (member other e others) are within found =
    part_at (slice_cmp nat_cmp key other) n d e (get_member key others) (are.1, omega (arith, within)) (part_of key n d others are.2 (omega (arith, within))) found

pub member_so : (json d : Data) (key : List ℕ) → IsAsRead json → get key json ≡ Some d → IsAsRead d
member_so null d key is found = absurd (none-some d found)
member_so (boolean b) d key is found = absurd (none-some d found)
member_so (number n) d key is found = absurd (none-some d found)
member_so (string s) d key is found = absurd (none-some d found)
member_so (array items) d key is found = absurd (none-some d found)
member_so (object ms) d key is found = (part_of key (members_depth ms) d ms is (omega arith) found).0

less_deep : (json d : Data) (key : List ℕ) → IsAsRead json → get key json ≡ Some d → depth d < depth json
less_deep null d key is found = absurd (none-some d found)
less_deep (boolean b) d key is found = absurd (none-some d found)
less_deep (number n) d key is found = absurd (none-some d found)
less_deep (string s) d key is found = absurd (none-some d found)
less_deep (array items) d key is found = absurd (none-some d found)
less_deep (object ms) d key is found = let part = part_of key (members_depth ms) d ms is (omega arith) found in omega (arith, part.1)

pub member_within : (text : List ℕ) (json d : Data) (key : List ℕ) → read text ≡ Some json → get key json ≡ Some d → depth d < max_depth
member_within text json d key is found = omega (arith, less_deep json d key (read_so text json is) found, depth-read text json is)

-- ---- each key once

not_there : (key : List ℕ) (members : Members) → ComesBefore key members → get_member key members ≡ None
not_there key no_members before = refl
not_there key (member other d others) before = rw before.0 (not_there key others before.1)

mutual
  pub once : (json : Data) → IsAsRead json → HasEachKeyOnce json
  once null is = tt
  once (boolean b) is = tt
  once (number n) is = tt
  once (string s) is = tt
  once (array items) is = items_once items is
  once (object members) is = members_once members is

  items_once : (items : Items) → ItemsAreAsRead items → ItemsHaveEachKeyOnce items
  items_once no_items is = tt
  items_once (item json others) is = (once json is.0, items_once others is.1)

  members_once : (members : Members) → MembersAreAsRead members → MembersHaveEachKeyOnce members
  members_once no_members is = tt
  members_once (member key json others) is = (not_there key others is.0, once json is.1, members_once others is.2)
