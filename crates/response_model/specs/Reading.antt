-- The data of a JSON reply, read as a response tree beside the plan.
use Rattle.std.specs.Prelude.{◌≡◌, ℕ, List, Bool, true, false, ◌&&◌, ◌||◌, bytes_eq, Some}
use Rattle.serde_json.specs.Data.{Data, null as json_null, string, array, object as json_object, Items, no_items, item, Members, no_members, member}
use Rattle.serde_json.specs.Find.{get_member}
use Rattle.response_model.specs.Plan.{Form, single, listed, Plan, leaf_plan, position, ObjectTypes, no_type, object_type, Nodes, no_node, node, is_possible, nodes_of}
use Rattle.response_model.specs.Response.{Tree, null, leaf, list_of, object, Elements, no_element, element, Entries, no_entry, entry, is_null}

-- Whether a node has this response key.
abbrev pub has_key : List ℕ → Nodes → Bool
has_key k no_node = false
has_key k (node s below others) = bytes_eq k s.key || has_key k others

-- The type is the only possible one.
abbrev pub IsOnlyType : ℕ → ObjectTypes → Type 0
IsOnlyType T no_type = ⊥
IsOnlyType T (object_type U weight nodes no_type) = U ≡ T
IsOnlyType T (object_type U weight nodes (object_type V w ns others)) = ⊥

-- Object types have different names, where `name` gives the name of each.
abbrev pub NamesDiffer : (ℕ → List ℕ) → Type 0
NamesDiffer name = (T U : ℕ) → name T ≡ name U → T ≡ U

-- `name` gives the name of each object type, `alias` is the response key under which a type name was added.
module _ (name : ℕ → List ℕ) (alias : List ℕ) where
  -- A JSON object is of this type: where the type name is asked, its entry under the alias is the name of this possible type; elsewhere one type alone is possible.
  abbrev pub IsOfType : Bool → ObjectTypes → Members → ℕ → Type 0
  IsOfType false possible ms T = IsOnlyType T possible
  IsOfType true possible ms T = (is_possible T possible ≡ true) × (get_member alias ms ≡ Some (string (name T)))

  -- A JSON object has no other keys than those of the nodes and, where the type name is asked, the alias.
  abbrev pub KeysKnown : Bool → Nodes → Members → Type 0
  KeysKnown asked nodes no_members = Unit {0}
  KeysKnown asked nodes (member k d ms) = ((has_key k nodes || (asked && bytes_eq k alias)) ≡ true) × KeysKnown asked nodes ms

  abbrev mutual
    -- A JSON value reads as a tree, at a place of this form and plan, where objects are asked for their type name or not.
    -- Null reads as null, also where it may not stand. Where a list is due, a list reads as the list of its items.
    -- Where a leaf is due, every other value reads as a leaf, a list or an object too.
    -- At a position an object reads as an object of its type: its entries stand in the order of the nodes, and the alias is left out.
    pub Reads : Form → Bool → Plan → Data → Tree → Type 0
    Reads form asked plan json null = json ≡ json_null
    Reads (single nullable) asked (leaf_plan type weight fill) json (leaf value) = (is_null json ≡ false) × (value ≡ json)
    Reads (single nullable) asked (position possible) json (leaf value) = ⊥
    Reads (listed nullable item_nullable) asked plan json (leaf value) = ⊥
    Reads (single nullable) asked plan json (list_of ts) = ⊥
    Reads (listed nullable item_nullable) asked plan json (list_of ts) = (ds : Items) × (json ≡ array ds) × ElementsRead item_nullable asked plan ds ts
    Reads (single nullable) asked (leaf_plan type weight fill) json (object T es) = ⊥
    Reads (single nullable) asked (position possible) json (object T es) =
        (ms : Members) × (json ≡ json_object ms) × IsOfType asked possible ms T × KeysKnown asked (nodes_of T possible) ms × EntriesRead (nodes_of T possible) ms es
    Reads (listed nullable item_nullable) asked plan json (object T es) = ⊥

    -- For each node there is a member of its key, which reads as the entry's value.
    pub EntriesRead : Nodes → Members → Entries → Type 0
    EntriesRead no_node ms no_entry = Unit {0}
    EntriesRead no_node ms (entry k t es) = ⊥
    EntriesRead (node s below others) ms no_entry = ⊥
    EntriesRead (node s below others) ms (entry k t es) = (k ≡ s.key) × ((d : Data) × (get_member s.key ms ≡ Some d) × Reads s.form s.asked below d t) × EntriesRead others ms es

    -- Each item reads as an item.
    pub ElementsRead : Bool → Bool → Plan → Items → Elements → Type 0
    ElementsRead nullable asked plan no_items no_element = Unit {0}
    ElementsRead nullable asked plan no_items (element t ts) = ⊥
    ElementsRead nullable asked plan (item d ds) no_element = ⊥
    ElementsRead nullable asked plan (item d ds) (element t ts) = Reads (single nullable) asked plan d t × ElementsRead nullable asked plan ds ts

  -- The data of a reply reads as this tree: at the root stands one value, and its type name is not asked.
  abbrev pub ReadsReply : Plan → Data → Tree → Type 0
  ReadsReply plan json t = Reads (single true) false plan json t
