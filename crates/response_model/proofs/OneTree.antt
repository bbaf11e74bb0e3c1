-- A JSON value reads as at most one tree.
use Rattle.std.proofs.Common.{◌≡◌, ℕ, List, [], Bool, true, false, true≢false, Option, Some, None, refl, sym, ap, ◌∙◌, subst, arith}
use Rattle.serde_json.specs.Data.{Data, null as json_null, boolean, number, string, array, object as json_object, Items, no_items, item, Members, no_members}
use Rattle.serde_json.specs.Find.{get_member}
use Rattle.response_model.specs.Plan.{Form, single, listed, Plan, leaf_plan, position, ObjectTypes, no_type, object_type, Nodes, no_node, node, nodes_of}
use Rattle.response_model.specs.Response.{Tree, null, leaf, list_of, object, Elements, no_element, element, Entries, no_entry, entry, is_null}
use Rattle.response_model.specs.Reading.{IsOnlyType, IsOfType, Reads, EntriesRead, ElementsRead}

-- Which kind of JSON value it is, and what an array, an object or a string holds.
abbrev kind_of : Data → ℕ
kind_of json_null = 0
kind_of (boolean b) = 1
kind_of (number n) = 2
kind_of (string s) = 3
kind_of (array ds) = 4
kind_of (json_object ms) = 5

abbrev items_in : Data → Items
items_in json_null = no_items
items_in (boolean b) = no_items
items_in (number n) = no_items
items_in (string s) = no_items
items_in (array ds) = ds
items_in (json_object ms) = no_items

abbrev members_in : Data → Members
members_in json_null = no_members
members_in (boolean b) = no_members
members_in (number n) = no_members
members_in (string s) = no_members
members_in (array ds) = no_members
members_in (json_object ms) = ms

abbrev bytes_in : Data → List ℕ
bytes_in json_null = []
bytes_in (boolean b) = []
bytes_in (number n) = []
bytes_in (string s) = s
bytes_in (array ds) = []
bytes_in (json_object ms) = []

abbrev value_in : Option Data → Data
value_in None = json_null
value_in (Some d) = d

no_array : (json : Data) (ds : Items) → json ≡ json_null → json ≡ array ds → ⊥
no_array json ds a b = let e : kind_of json_null ≡ kind_of (array ds) = ap kind_of (sym a ∙ b) in omega arith

no_object : (json : Data) (ms : Members) → json ≡ json_null → json ≡ json_object ms → ⊥
no_object json ms a b = let e : kind_of json_null ≡ kind_of (json_object ms) = ap kind_of (sym a ∙ b) in omega arith

no_null : (json : Data) → json ≡ json_null → is_null json ≡ false → ⊥
no_null json a b = true≢false (sym (ap is_null a) ∙ b)

one_only_type : (T U : ℕ) (possible : ObjectTypes) → IsOnlyType T possible → IsOnlyType U possible → T ≡ U
one_only_type T U no_type p q = absurd p
one_only_type T U (object_type V w ns no_type) p q = sym p ∙ q
one_only_type T U (object_type V w ns (object_type W v ms others)) p q = absurd p

module _ (name : ℕ → List ℕ) (alias : List ℕ) (names_differ : (T U : ℕ) → name T ≡ name U → T ≡ U) where
  one_type : (asked : Bool) (possible : ObjectTypes) (ms ls : Members) (T U : ℕ) → ms ≡ ls → IsOfType name alias asked possible ms T → IsOfType name alias asked possible ls U → T ≡ U
  one_type false possible ms ls T U e p q = one_only_type T U possible p q
  one_type true possible ms ls T U e p q = names_differ T U (ap (λ (o : Option Data). bytes_in (value_in o)) (sym p.1 ∙ ap (λ (m : Members). get_member alias m) e ∙ q.1))

  mutual
    pub one_tree : (form : Form) (asked : Bool) (plan : Plan) (json : Data) (t s : Tree) → Reads name alias form asked plan json t → Reads name alias form asked plan json s → t ≡ s
    one_tree form asked plan json null null p q = refl
    one_tree (single n) asked (leaf_plan type w fill) json null (leaf v) p q = absurd (no_null json p q.0)
    one_tree (single n) asked (position possible) json null (leaf v) p q = absurd q
    one_tree (listed n i) asked plan json null (leaf v) p q = absurd q
    one_tree (single n) asked plan json null (list_of us) p q = absurd q
    one_tree (listed n i) asked plan json null (list_of us) p q = absurd (no_array json q.0 p q.1)
    one_tree (single n) asked (leaf_plan type w fill) json null (object U fs) p q = absurd q
    one_tree (single n) asked (position possible) json null (object U fs) p q = absurd (no_object json q.0 p q.1)
    one_tree (listed n i) asked plan json null (object U fs) p q = absurd q
    one_tree (single n) asked (leaf_plan type w fill) json (leaf v) null p q = absurd (no_null json q p.0)
    one_tree (single n) asked (leaf_plan type w fill) json (leaf v) (leaf u) p q = ap leaf (p.1 ∙ sym q.1)
    one_tree (single n) asked (leaf_plan type w fill) json (leaf v) (list_of us) p q = absurd q
    one_tree (single n) asked (leaf_plan type w fill) json (leaf v) (object U fs) p q = absurd q
    one_tree (single n) asked (position possible) json (leaf v) s p q = absurd p
    one_tree (listed n i) asked plan json (leaf v) s p q = absurd p
    one_tree (single n) asked plan json (list_of ts) s p q = absurd p
    one_tree (listed n i) asked plan json (list_of ts) null p q = absurd (no_array json p.0 q p.1)
    one_tree (listed n i) asked plan json (list_of ts) (leaf v) p q = absurd q
    one_tree (listed n i) asked plan json (list_of ts) (list_of us) p q =
        let same : q.0 ≡ p.0 = ap items_in (sym q.1 ∙ p.1) in
        ap list_of (one_each i asked plan p.0 ts us p.2 (subst (λ (ds : Items). ElementsRead name alias i asked plan ds us) same q.2))
    one_tree (listed n i) asked plan json (list_of ts) (object U fs) p q = absurd q
    one_tree (single n) asked (leaf_plan type w fill) json (object T es) s p q = absurd p
    one_tree (single n) asked (position possible) json (object T es) null p q = absurd (no_object json p.0 q p.1)
    one_tree (single n) asked (position possible) json (object T es) (leaf v) p q = absurd q
    one_tree (single n) asked (position possible) json (object T es) (list_of us) p q = absurd q
    one_tree (single n) asked (position possible) json (object T es) (object U fs) p q =
        let same : q.0 ≡ p.0 = ap members_in (sym q.1 ∙ p.1) in
        let type : U ≡ T = one_type asked possible q.0 p.0 U T same q.2 p.2 in
        let read = subst (λ (x : ℕ). EntriesRead name alias (nodes_of x possible) p.0 fs) type (subst (λ (ms : Members). EntriesRead name alias (nodes_of U possible) ms fs) same q.4) in
        ap (λ (x : ℕ). object x es) (sym type) ∙ ap (λ (xs : Entries). object U xs) (one_entries (nodes_of T possible) p.0 es fs p.4 read)
    one_tree (listed n i) asked plan json (object T es) s p q = absurd p

    one_entries : (nodes : Nodes) (ms : Members) (es fs : Entries) → EntriesRead name alias nodes ms es → EntriesRead name alias nodes ms fs → es ≡ fs
    one_entries no_node ms no_entry no_entry p q = refl
    one_entries no_node ms no_entry (entry l u fs) p q = absurd q
    one_entries no_node ms (entry k t es) fs p q = absurd p
    one_entries (node s below others) ms no_entry fs p q = absurd p
    one_entries (node s below others) ms (entry k t es) no_entry p q = absurd q
    one_entries (node s below others) ms (entry k t es) (entry l u fs) p q =
        let same : q.1.0 ≡ p.1.0 = ap value_in (sym q.1.1 ∙ p.1.1) in
        ap (λ (x : List ℕ). entry x t es) (p.0 ∙ sym q.0)
        ∙ ap (λ (x : Tree). entry l x es) (one_tree s.form s.asked below p.1.0 t u p.1.2 (subst (λ (d : Data). Reads name alias s.form s.asked below d u) same q.1.2))
        ∙ ap (λ (x : Entries). entry l u x) (one_entries others ms es fs p.2 q.2)

    one_each : (nullable asked : Bool) (plan : Plan) (ds : Items) (ts us : Elements) → ElementsRead name alias nullable asked plan ds ts → ElementsRead name alias nullable asked plan ds us → ts ≡ us
    one_each nullable asked plan no_items no_element no_element p q = refl
    one_each nullable asked plan no_items no_element (element u us) p q = absurd q
    one_each nullable asked plan no_items (element t ts) us p q = absurd p
    one_each nullable asked plan (item d ds) no_element us p q = absurd p
    one_each nullable asked plan (item d ds) (element t ts) no_element p q = absurd q
    one_each nullable asked plan (item d ds) (element t ts) (element u us) p q =
        ap (λ (x : Tree). element x ts) (one_tree (single nullable) asked plan d t u p.0 q.0)
        ∙ ap (λ (x : Elements). element u x) (one_each nullable asked plan ds ts us p.1 q.1)
