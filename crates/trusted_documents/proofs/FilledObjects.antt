-- The object into which a document is put: what it holds, and how deep it is.
use Rattle.std.proofs.Common.{rules, ◌≡◌, ℕ, ◌≤◌, List, [], ◌∷◌, Bool, true, false, cond, Option, Some, String, Global, Ordering, Less, Equal, Greater, string_bytes, string_cmp, nat_cmp, is_eq, bytes_eq, true≢false, refl, sym, ap, ap₂, ◌∙◌, arith, codes, is_some}
use Rattle.std.proofs.lemmas.Map.Text.{is_eq-slice_cmp}
use Rattle.std.proofs.lemmas.Slice.Eq.{bytes_eq-Decides}
use Rattle.std.specs.BTreeMap.{BTreeMap, is_at, insert_entry}
use Rattle.std.specs.Cmp.Lexicographic.{slice_cmp}
use Rattle.std.specs.Map.{remove_entry}
use Rattle.std.specs.Ordering.{match_ordering}
use Rattle.serde_json.specs.Data.{Data, null, boolean, number, string, array, object, Members, no_members, member, put, depth, members_depth}
use Rattle.serde_json.specs.Find.{get, get_member, as_object}
use Rattle.serde_json.specs.View.{view, members_view}
use Rattle.serde_json.specs.declared.value.Value.{Value, Object, String as StringValue, the_lemmas}
use Rattle.serde_json.proofs.Views.{get_member-put, get_member-put_other, Entry, view-Object, members_view-insert_entry}
use Rattle.trusted_documents.specs.FilledBodies.{without, with_query}

-- ---- how it is made

view_cond : (test : Bool) (a b : List Entry) → members_view (cond test a b) ≡ cond test (members_view a) (members_view b)
view_cond true a b = refl
view_cond false a b = refl

members_without : (key : List ℕ) (entries : List Entry) → members_view (remove_entry (is_at (λ k. slice_cmp nat_cmp key (string_bytes k))) entries) ≡ without key (members_view entries)
members_without key [] = refl
members_without key (e ∷ es) =
    view_cond (is_eq (slice_cmp nat_cmp key (string_bytes e.0))) es (e ∷ remove_entry (is_at (λ k. slice_cmp nat_cmp key (string_bytes k))) es)
    ∙ ap₂ (λ (test : Bool) (rest : Members). cond test (members_view es) (member (string_bytes e.0) (view e.1) rest)) (is_eq-slice_cmp key (string_bytes e.0)) (members_without key es)

pub view-String : (text : String Global) → view (StringValue text) ≡ string (string_bytes text)
view-String text = search (rules, the_lemmas)

-- a query is inserted, and `extensions` is removed
pub made : (first inserted removed : BTreeMap (String Global) Value) (key : String Global) (query : List ℕ) (value : Value) → string_bytes key ≡ codes "query" → view value ≡ string query
    → inserted.entries ≡ insert_entry string_cmp first.entries key value → removed.entries ≡ remove_entry (is_at (λ k. slice_cmp nat_cmp (codes "extensions") (string_bytes k))) inserted.entries
    → view (Object removed) ≡ with_query query (view (Object first))
made first inserted removed key query value key_is value_is insert_is remove_is =
    view-Object removed
    ∙ ap object (ap members_view remove_is ∙ members_without (codes "extensions") inserted.entries ∙ ap (without (codes "extensions")) (ap members_view insert_is ∙ members_view-insert_entry first.entries key value ∙ ap₂ (λ (k : List ℕ) (d : Data). put k d (members_view first.entries)) key_is value_is))
    ∙ ap (with_query query) (sym (view-Object first))

-- ---- how deep it is

one_of_three : (order : Ordering) (a b c : Members) (most : ℕ) → members_depth a ≤ most → members_depth b ≤ most → members_depth c ≤ most → members_depth (match_ordering order a b c) ≤ most
one_of_three Less a b c most p q r = p
one_of_three Equal a b c most p q r = q
one_of_three Greater a b c most p q r = r

put_depth : (key : List ℕ) (value : Data) (members : Members) (most : ℕ) → depth value ≤ most → members_depth members ≤ most → members_depth (put key value members) ≤ most
put_depth key value no_members most p q = omega arith
put_depth key value (member k v rest) most p q =
    one_of_three _ (member key value (member k v rest)) (member k value rest) (member k v (put key value rest)) most (omega arith) (omega arith) (omega (arith, put_depth key value rest most p (omega arith)))

without_depth : (key : List ℕ) (members : Members) (most : ℕ) → members_depth members ≤ most → members_depth (without key members) ≤ most
without_depth key no_members most h = h
without_depth key (member k v rest) most h = by_test (bytes_eq key k) (without_depth key rest most (omega (arith, h)))
  where
    by_test : (test : Bool) → members_depth (without key rest) ≤ most → members_depth (cond test rest (member k v (without key rest))) ≤ most
    by_test true later = omega (arith, h)
    by_test false later = omega (arith, h, later)

pub filled_depth : (query : List ℕ) (json : Data) (most : ℕ) → depth json ≤ most → depth (with_query query json) ≤ most
filled_depth query (object members) most h =
    let inner = without_depth (codes "extensions") (put (codes "query") (string query) members) (members_depth members) (put_depth (codes "query") (string query) members (members_depth members) (omega arith) (omega arith)) in
    omega (arith, h, inner)
filled_depth query null most h = h
filled_depth query (boolean b) most h = h
filled_depth query (number n) most h = h
filled_depth query (string s) most h = h
filled_depth query (array items) most h = h

-- ---- what is looked up in it

past : (order : Ordering) (a b : Option Data) → is_eq order ≡ false → match_ordering order a b a ≡ a
past Less a b e = refl
past Equal a b e = absurd (true≢false e)
past Greater a b e = refl

differ : (xs ys : List ℕ) (test : Bool) → bytes_eq xs ys ≡ test → (xs ≡ ys → ⊥) → test ≡ false
differ xs ys true e other = absurd (other ((bytes_eq-Decides xs ys).0 e))
differ xs ys false e other = refl

skips : (q k : List ℕ) (value : Data) (rest : Members) → (q ≡ k → ⊥) → get_member q (member k value rest) ≡ get_member q rest
skips q k value rest other = past (slice_cmp nat_cmp q k) _ _ (is_eq-slice_cmp q k ∙ differ q k _ refl other)

stays_without : (q key : List ℕ) (members : Members) → (q ≡ key → ⊥) → get_member q (without key members) ≡ get_member q members
stays_without q key no_members other = refl
stays_without q key (member k v rest) other = by_test (bytes_eq key k) refl (stays_without q key rest other)
  where
    by_test : (test : Bool) → bytes_eq key k ≡ test → get_member q (without key rest) ≡ get_member q rest → get_member q (cond test rest (member k v (without key rest))) ≡ get_member q (member k v rest)
    by_test true same later =
        let is : key ≡ k = (bytes_eq-Decides key k).0 same in
        sym (skips q k v rest (λ h. other (h ∙ sym is)))
    by_test false same later = ap (λ r. match_ordering (slice_cmp nat_cmp q k) r (Some v) r) later

pub still_object : (query : List ℕ) (json : Data) → is_some (as_object json) ≡ true → is_some (as_object (with_query query json)) ≡ true
still_object query (object entries) is = refl
still_object query null is = cc
still_object query (boolean b) is = cc
still_object query (number n) is = cc
still_object query (string s) is = cc
still_object query (array items) is = cc

pub kept_under : (query q : List ℕ) (json : Data) → (q ≡ codes "query" → ⊥) → (q ≡ codes "extensions" → ⊥) → get q (with_query query json) ≡ get q json
kept_under query q (object members) no_query no_extensions =
    stays_without q (codes "extensions") (put (codes "query") (string query) members) no_extensions ∙ get_member-put_other q (codes "query") (string query) members no_query
kept_under query q null no_query no_extensions = refl
kept_under query q (boolean b) no_query no_extensions = refl
kept_under query q (number n) no_query no_extensions = refl
kept_under query q (string s) no_query no_extensions = refl
kept_under query q (array items) no_query no_extensions = refl

pub query_put : (query : List ℕ) (json : Data) → is_some (as_object json) ≡ true → get (codes "query") (with_query query json) ≡ Some (string query)
query_put query (object members) is = stays_without (codes "query") (codes "extensions") (put (codes "query") (string query) members) (λ h. other h) ∙ get_member-put (codes "query") (string query) members
  where
    other : codes "query" ≡ codes "extensions" → ⊥
    other h = cc
query_put query null is = cc
query_put query (boolean b) is = cc
query_put query (number n) is = cc
query_put query (string s) is = cc
query_put query (array items) is = cc
