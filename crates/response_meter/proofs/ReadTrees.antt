-- A value reads as one tree.
use Rattle.std.proofs.Common.{◌≡◌, ℕ, List, Bool, true, false, true≢false, cond, eqb, Option, refl, sym, ap, ap₂, ◌∙◌}
use Rattle.serde_json.specs.Data.{Data, Items, no_items, item, Members}
use Rattle.serde_json.specs.Find.{get_member}
use Rattle.response_model.specs.Plan.{Form, single, listed, Plan, leaf_plan, position, ObjectTypes, no_type, object_type, Nodes, no_node, node, nodes_of}
use Rattle.response_model.specs.Response.{Tree, null, leaf, list_of, object, Elements, no_element, element, Entries, no_entry, entry, is_null}
use Rattle.response_model.specs.Reading.{Reads, EntriesRead, ElementsRead}
use Rattle.response_meter.specs.FirstFault.{AreNamed, TypesNamed, NodesNamed}
use Rattle.response_meter.specs.Trees.{tree_of, items_tree, place_tree, value_tree, object_entries, member_entries, data_tree}
use Rattle.response_meter.proofs.Reading.{type_read}

module _ (name : ℕ → List ℕ) (alias : List ℕ) where
  abbrev SingleReads : Bool → Plan → Type 0
  SingleReads asked plan = (n : Bool) (d : Data) (t : Tree) → is_null d ≡ false → Reads name alias (single n) asked plan d t → t ≡ value_tree name alias asked plan d

  null_read : (n asked : Bool) (plan : Plan) (d : Data) (t : Tree) → is_null d ≡ true → Reads name alias (single n) asked plan d t → t ≡ null
  null_read n asked plan d null e r = refl
  null_read n asked (leaf_plan type w fill) d (leaf v) e r = absurd (true≢false (sym e ∙ r.0))
  null_read n asked (position possible) d (leaf v) e r = absurd r
  null_read n asked plan d (list_of ts) e r = absurd r
  null_read n asked (leaf_plan type w fill) d (object T es) e r = absurd r
  null_read n asked (position possible) d (object T es) e r = absurd (true≢false (sym e ∙ ap is_null r.1))

  single_read : (asked : Bool) (plan : Plan) → SingleReads asked plan → (b n : Bool) (d : Data) (t : Tree) → is_null d ≡ b → Reads name alias (single n) asked plan d t → t ≡ cond b null (value_tree name alias asked plan d)
  single_read asked plan each true n d t e r = null_read n asked plan d t e r
  single_read asked plan each false n d t e r = each n d t e r

  elements_read : (asked : Bool) (plan : Plan) → SingleReads asked plan → (nullable : Bool) (ds : Items) (ts : Elements) → ElementsRead name alias nullable asked plan ds ts → ts ≡ items_tree (λ v. value_tree name alias asked plan v) ds
  elements_read asked plan each nullable no_items no_element r = refl
  elements_read asked plan each nullable no_items (element t ts) r = absurd r
  elements_read asked plan each nullable (item d ds) no_element r = absurd r
  elements_read asked plan each nullable (item d ds) (element t ts) r = ap₂ element (single_read asked plan each (is_null d) nullable d t refl r.0) (elements_read asked plan each nullable ds ts r.1)

  place_read : (form : Form) (asked : Bool) (plan : Plan) → SingleReads asked plan → (d : Data) (t : Tree) → Reads name alias form asked plan d t → t ≡ place_tree (λ v. value_tree name alias asked plan v) form d
  place_read (single n) asked plan each d t r = single_read asked plan each (is_null d) n d t refl r
  place_read (listed n i) asked plan each d null r = ap (λ (x : Data). place_tree (λ v. value_tree name alias asked plan v) (listed n i) x) (sym r)
  place_read (listed n i) asked plan each d (leaf v) r = absurd r
  place_read (listed n i) asked plan each d (list_of ts) r =
      ap list_of (elements_read asked plan each i r.0 ts r.2) ∙ ap (λ (x : Data). place_tree (λ v. value_tree name alias asked plan v) (listed n i) x) (sym r.1)
  place_read (listed n i) asked plan each d (object T es) r = absurd r

  chosen : (b : Bool) (ns os : Nodes) (fs gs : Entries) (ms : Members) (es : Entries) → EntriesRead name alias (cond b ns os) ms es → (EntriesRead name alias ns ms es → es ≡ fs) → (EntriesRead name alias os ms es → es ≡ gs) → es ≡ cond b fs gs
  chosen true ns os fs gs ms es r here later = here r
  chosen false ns os fs gs ms es r here later = later r

  mutual
    value_read : (asked : Bool) (plan : Plan) → AreNamed name plan → SingleReads asked plan
    value_read asked plan named n d null some r = absurd (true≢false (sym (ap is_null r) ∙ some))
    value_read asked (leaf_plan type w fill) named n d (leaf v) some r = ap leaf r.1
    value_read asked (position possible) named n d (leaf v) some r = absurd r
    value_read asked plan named n d (list_of ts) some r = absurd r
    value_read asked (leaf_plan type w fill) named n d (object T es) some r = absurd r
    value_read asked (position possible) named n d (object T es) some r =
        ap (object T) (types_read possible named.1 T r.0 es r.4)
        ∙ ap (λ (o : Option ℕ). tree_of o (λ U. object U (object_entries name alias U possible r.0))) (sym (type_read name alias asked possible r.0 T named.0 r.2))
        ∙ ap (λ (x : Data). value_tree name alias asked (position possible) x) (sym r.1)

    types_read : (possible : ObjectTypes) → TypesNamed name possible → (T : ℕ) (ms : Members) (es : Entries) → EntriesRead name alias (nodes_of T possible) ms es → es ≡ object_entries name alias T possible ms
    types_read no_type named T ms no_entry r = refl
    types_read no_type named T ms (entry k t es) r = absurd r
    types_read (object_type U w nodes others) named T ms es r =
        chosen (eqb U T) nodes (nodes_of T others) (member_entries name alias nodes ms) (object_entries name alias T others ms) ms es r (entries_read nodes named.0 ms es) (types_read others named.1 T ms es)

    entries_read : (nodes : Nodes) → NodesNamed name nodes → (ms : Members) (es : Entries) → EntriesRead name alias nodes ms es → es ≡ member_entries name alias nodes ms
    entries_read no_node named ms no_entry r = refl
    entries_read no_node named ms (entry k t es) r = absurd r
    entries_read (node s below others) named ms no_entry r = absurd r
    entries_read (node s below others) named ms (entry k t es) r =
        let inner = λ (v : Data). place_tree (λ x. value_tree name alias s.asked below x) s.form v in
        let own : t ≡ tree_of (get_member s.key ms) inner = place_read s.form s.asked below (value_read s.asked below named.0) r.1.0 t r.1.2 ∙ ap (λ (o : Option Data). tree_of o inner) (sym r.1.1) in
        ap (λ (x : List ℕ). entry x t es) r.0 ∙ ap₂ (λ (x : Tree) (xs : Entries). entry s.key x xs) own (entries_read others named.1 ms es r.2)

  -- so does the data of a reply
  pub data_read : (plan : Plan) → AreNamed name plan → (d : Data) (t : Tree) → Reads name alias (single true) false plan d t → t ≡ data_tree name alias plan d
  data_read plan named d t r = place_read (single true) false plan (value_read false plan named) d t r
