-- The tree that the data of a reply is read as, where it passes the tests. (Where it does not, null or no entry stands.)
use Rattle.std.specs.Prelude.{ℕ, List, Bool, true, false, eqb, Option, Some, None, if◌then◌else◌}
use Rattle.serde_json.specs.Data.{Data, Items, no_items, item, Members}
use Rattle.serde_json.specs.Find.{get_member, as_array, as_object}
use Rattle.response_model.specs.Plan.{Form, single, listed, Plan, leaf_plan, position, ObjectTypes, no_type, object_type, Nodes, no_node, node}
use Rattle.response_model.specs.Response.{Tree, null, leaf, list_of, object, Elements, no_element, element, Entries, no_entry, entry, is_null}
use Rattle.response_meter.specs.FirstFault.{type_told}

-- The tree of what is there.
abbrev pub tree_of : {A : Type 0} → Option A → (A → Tree) → Tree
tree_of None inner = null
tree_of (Some x) inner = inner x

-- `inner` reads a value that is not null.
abbrev pub null_tree : Tree → Data → Tree
null_tree later json = if is_null json then null else later

abbrev pub items_tree : (Data → Tree) → Items → Elements
items_tree inner no_items = no_element
items_tree inner (item d ds) = element (null_tree (inner d) d) (items_tree inner ds)

abbrev pub list_tree : (Data → Tree) → Data → Tree
list_tree inner json = tree_of (as_array json) (λ ds. list_of (items_tree inner ds))

abbrev pub place_tree : (Data → Tree) → Form → Data → Tree
place_tree inner (single nullable) json = null_tree (inner json) json
place_tree inner (listed nullable item_nullable) json = null_tree (list_tree inner json) json

module _ (name : ℕ → List ℕ) (alias : List ℕ) where
  abbrev mutual
    pub value_tree : Bool → Plan → Data → Tree
    value_tree asked (leaf_plan type weight fill) json = leaf json
    value_tree asked (position possible) json =
        tree_of (as_object json) (λ ms. tree_of (type_told name alias asked possible ms) (λ T. object T (object_entries T possible ms)))

    pub object_entries : ℕ → ObjectTypes → Members → Entries
    object_entries T no_type ms = no_entry
    object_entries T (object_type U weight nodes others) ms = if eqb U T then member_entries nodes ms else object_entries T others ms

    pub member_entries : Nodes → Members → Entries
    member_entries no_node ms = no_entry
    member_entries (node s below others) ms =
        entry s.key (tree_of (get_member s.key ms) (λ d. place_tree (λ v. value_tree s.asked below v) s.form d)) (member_entries others ms)

  abbrev pub data_tree : Plan → Data → Tree
  data_tree plan json = place_tree (λ v. value_tree false plan v) (single true) json
