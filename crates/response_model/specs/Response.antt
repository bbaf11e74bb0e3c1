-- The data of a response as a tree, when it fits a plan, and when it keeps the declared sizes.
use Rattle.std.specs.Prelude.{◌≡◌, ℕ, suc, ◌≤◌, List, Bool, true, false, Option, Some, None}
use Rattle.serde_json.specs.Data.{Data, null as json_null, boolean, number, string, array, object as json_object}
use Rattle.response_model.specs.Plan.{Form, single, listed, LeafType, type_name, numbered, Plan, leaf_plan, position, Nodes, no_node, node, is_possible, nodes_of}

mutual
  -- The value of a response: null, a leaf, a list, or an object of an object type.
  pub data Tree : Type 0 where
    null : Tree
    leaf : (json : Data) → Tree
    list_of : (elements : Elements) → Tree
    object : (type : ℕ) → (entries : Entries) → Tree

  -- The items of a list, in their order.
  pub data Elements : Type 0 where
    no_element : Elements
    element : (value : Tree) → (others : Elements) → Elements

  -- The entries of an object, in their order, each a response key and its value.
  pub data Entries : Type 0 where
    no_entry : Entries
    entry : (key : List ℕ) → (value : Tree) → (others : Entries) → Entries

-- The number of items of a list.
abbrev pub count : Elements → ℕ
count no_element = 0
count (element t others) = suc (count others)

-- Whether a JSON value is null.
abbrev pub is_null : Data → Bool
is_null json_null = true
is_null (boolean b) = false
is_null (number n) = false
is_null (string s) = false
is_null (array ds) = false
is_null (json_object ms) = false

-- Whether a value of this form may be null as a whole.
abbrev pub may_be_null : Form → Bool
may_be_null (single nullable) = nullable
may_be_null (listed nullable item_nullable) = nullable

-- `holds type json` says whether the scalar or enum type of this number holds this JSON value.
module _ (holds : ℕ → Data → Bool) where
  -- A JSON value that may stand in a leaf of this type. Where the leaf is a type name, the one value is that name, which also fills it.
  abbrev pub IsLeafOf : LeafType → Data → Data → Type 0
  IsLeafOf type_name fill json = json ≡ fill
  IsLeafOf (numbered type) fill json = holds type json ≡ true

  abbrev mutual
    -- A value fits its form and its plan, whatever the lengths of its lists:
    -- null stands only where it may; a list stands where a list is due, and each of its items fits;
    -- a leaf is never the JSON null, and holds what its type holds;
    -- an object is of a possible type, and has an entry for each node of that type and no other, in their order.
    pub Fits : Form → Plan → Tree → Type 0
    Fits form plan null = may_be_null form ≡ true
    Fits (single nullable) (leaf_plan type weight fill) (leaf json) = (is_null json ≡ false) × IsLeafOf type fill json
    Fits (single nullable) (position possible) (leaf json) = ⊥
    Fits (listed nullable item_nullable) plan (leaf json) = ⊥
    Fits (single nullable) plan (list_of ts) = ⊥
    Fits (listed nullable item_nullable) plan (list_of ts) = ElementsFit item_nullable plan ts
    Fits (single nullable) (leaf_plan type weight fill) (object T es) = ⊥
    Fits (single nullable) (position possible) (object T es) = (is_possible T possible ≡ true) × EntriesFit (nodes_of T possible) es
    Fits (listed nullable item_nullable) plan (object T es) = ⊥

    -- The entries are those of the nodes, in their order, and each value fits.
    pub EntriesFit : Nodes → Entries → Type 0
    EntriesFit no_node no_entry = Unit {0}
    EntriesFit no_node (entry k t es) = ⊥
    EntriesFit (node s below others) no_entry = ⊥
    EntriesFit (node s below others) (entry k t es) = (s.key ≡ k) × Fits s.form below t × EntriesFit others es

    -- Each item fits.
    pub ElementsFit : Bool → Plan → Elements → Type 0
    ElementsFit nullable plan no_element = Unit {0}
    ElementsFit nullable plan (element t ts) = Fits (single nullable) plan t × ElementsFit nullable plan ts

-- A number of items that a declared size allows: any where there is none, otherwise at most the size.
abbrev pub IsWithin : Option ℕ → ℕ → Type 0
IsWithin None n = Unit {0}
IsWithin (Some size) n = n ≤ size

abbrev mutual
  -- Each list in the value has at most the declared size of its field. It says nothing of whether the value fits.
  pub SizesKept : Option ℕ → Plan → Tree → Type 0
  SizesKept size plan null = Unit {0}
  SizesKept size plan (leaf json) = Unit {0}
  SizesKept size plan (list_of ts) = IsWithin size (count ts) × ElementsKept plan ts
  SizesKept size (leaf_plan type weight fill) (object T es) = Unit {0}
  SizesKept size (position possible) (object T es) = EntriesKept (nodes_of T possible) es

  -- Each entry keeps the sizes, by the node at its place.
  pub EntriesKept : Nodes → Entries → Type 0
  EntriesKept no_node es = Unit {0}
  EntriesKept (node s below others) no_entry = Unit {0}
  EntriesKept (node s below others) (entry k t es) = SizesKept s.size below t × EntriesKept others es

  -- Each item keeps the sizes of what stands below it.
  pub ElementsKept : Plan → Elements → Type 0
  ElementsKept plan no_element = Unit {0}
  ElementsKept plan (element t ts) = SizesKept None plan t × ElementsKept plan ts
