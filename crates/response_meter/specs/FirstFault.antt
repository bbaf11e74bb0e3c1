-- The first test that the data of a reply does not pass, in the order in which a reply is read.
use Rattle.std.specs.Prelude.{◌≡◌, ℕ, suc, List, [], Bool, true, false, ◌&&◌, ◌||◌, leb, eqb, bytes_eq, Option, Some, None, if◌then◌else◌}
use Rattle.std.specs.Option.{option_or}
use Rattle.serde_json.specs.Data.{Data, null as json_null, boolean, number, string, array, object as json_object, Items, no_items, item, Members, no_members, member}
use Rattle.serde_json.specs.Find.{get_member, as_array, as_object}
use Rattle.serde_json.specs.Events.{items_len}
use Rattle.response_model.specs.Plan.{Form, single, listed, LeafType, type_name, numbered, Plan, leaf_plan, position, ObjectTypes, no_type, object_type, Nodes, no_node, node, is_possible}
use Rattle.response_model.specs.Response.{is_null}
use Rattle.response_model.specs.Reading.{has_key}
use Rattle.response_meter.specs.Faults.{Fault, size_broken, key_step, item_step, at_step, tested, given}
use Rattle.response_meter.specs.declared.fault.Why.TheVariants.{MissingKey, ExtraKey, NullHere, NotList, BadLeaf, BadType, BadObject}

-- Null passes where it may stand. Another value is tested further.
abbrev pub null_fault : Bool → Option Fault → Data → Option Fault
null_fault nullable later json = if is_null json then tested nullable NullHere None else later

-- The number of items is at most the declared size.
abbrev pub size_fault : Option ℕ → ℕ → Option Fault
size_fault None n = None
size_fault (Some size) n = if leb n size then None else Some (size_broken [] size n)

-- The items from the n-th on, in their order. `inner` tests a value that is not null.
abbrev pub items_fault : (Data → Option Fault) → Bool → ℕ → Items → Option Fault
items_fault inner nullable n no_items = None
items_fault inner nullable n (item d ds) = option_or (at_step (item_step n) (null_fault nullable (inner d) d)) (items_fault inner nullable (suc n) ds)

-- A list of at most the declared size, and then its items.
abbrev pub list_fault : (Data → Option Fault) → Bool → Option ℕ → Data → Option Fault
list_fault inner nullable size json = given (as_array json) NotList (λ ds. option_or (size_fault size (items_len ds)) (items_fault inner nullable 0 ds))

-- The value at a place of this form, whose list has this declared size.
abbrev pub place_fault : (Data → Option Fault) → Form → Option ℕ → Data → Option Fault
place_fault inner (single nullable) size json = null_fault nullable (inner json) json
place_fault inner (listed nullable item_nullable) size json = null_fault nullable (list_fault inner item_nullable size json) json

-- The only possible type.
abbrev pub only_type : ObjectTypes → Option ℕ
only_type no_type = None
only_type (object_type T weight nodes no_type) = Some T
only_type (object_type T weight nodes (object_type U w ns others)) = None

-- Whether there is a value and it is this string.
abbrev pub is_text : List ℕ → Option Data → Bool
is_text s None = false
is_text s (Some json_null) = false
is_text s (Some (boolean b)) = false
is_text s (Some (number n)) = false
is_text s (Some (string t)) = bytes_eq s t
is_text s (Some (array ds)) = false
is_text s (Some (json_object ms)) = false

-- Each key is that of a node or, where the type name is asked, the alias.
abbrev pub keys_known : List ℕ → Bool → Nodes → Members → Bool
keys_known alias asked nodes no_members = true
keys_known alias asked nodes (member k d ms) = (has_key k nodes || (asked && bytes_eq k alias)) && keys_known alias asked nodes ms

-- `holds type json` says whether the scalar or enum type of this number holds this JSON value.
module _ (holds : ℕ → Data → Bool) where
  -- Whether a leaf of this type may hold the value. What fills a type name is the name, a string.
  abbrev pub is_leaf : LeafType → Data → Data → Bool
  is_leaf type_name json_null json = false
  is_leaf type_name (boolean b) json = false
  is_leaf type_name (number n) json = false
  is_leaf type_name (string s) json = is_text s (Some json)
  is_leaf type_name (array ds) json = false
  is_leaf type_name (json_object ms) json = false
  is_leaf (numbered type) fill json = holds type json

-- `name` gives the name of each object type, and `alias` is the response key under which a type name was added.
module _ (name : ℕ → List ℕ) (alias : List ℕ) where
  -- The first possible type of this name.
  abbrev pub type_named : ObjectTypes → Option Data → Option ℕ
  type_named no_type json = None
  type_named (object_type T weight nodes others) json = if is_text (name T) json then Some T else type_named others json

  -- The type that an object says it is of: the one named under the alias where the type name is asked, elsewhere the only possible one.
  abbrev pub type_told : Bool → ObjectTypes → Members → Option ℕ
  type_told false possible ms = only_type possible
  type_told true possible ms = type_named possible (get_member alias ms)

module _ (holds : ℕ → Data → Bool) (name : ℕ → List ℕ) (alias : List ℕ) where
  abbrev mutual
    -- A value that is not null, where no list is due.
    -- A leaf is one of its type. At a position stands an object that says its type.
    pub value_fault : Bool → Plan → Data → Option Fault
    value_fault asked (leaf_plan type weight fill) json = tested (is_leaf holds type fill json) BadLeaf None
    value_fault asked (position possible) json =
        given (as_object json) BadObject (λ ms. given (type_told name alias asked possible ms) BadType (λ T. object_fault asked T possible ms))

    -- An object of the type T has no key too many, and then has its entries.
    pub object_fault : Bool → ℕ → ObjectTypes → Members → Option Fault
    object_fault asked T no_type ms = None
    object_fault asked T (object_type U weight nodes others) ms =
        if eqb U T then tested (keys_known alias asked nodes ms) ExtraKey (entries_fault nodes ms) else object_fault asked T others ms

    -- For each node, in their order, there is an entry, and its value is tested.
    pub entries_fault : Nodes → Members → Option Fault
    entries_fault no_node ms = None
    entries_fault (node s below others) ms =
        option_or (at_step (key_step s.key) (given (get_member s.key ms) MissingKey (λ d. place_fault (λ v. value_fault s.asked below v) s.form s.size d))) (entries_fault others ms)

  -- The data of a reply: one value that may be null, whose type name is not asked.
  abbrev pub data_fault : Plan → Data → Option Fault
  data_fault plan json = place_fault (λ v. value_fault false plan v) (single true) None json

-- What fills a type name is a string.
abbrev pub IsFilled : LeafType → Data → Type 0
IsFilled type_name json_null = ⊥
IsFilled type_name (boolean b) = ⊥
IsFilled type_name (number n) = ⊥
IsFilled type_name (string s) = Unit {0}
IsFilled type_name (array ds) = ⊥
IsFilled type_name (json_object ms) = ⊥
IsFilled (numbered type) fill = Unit {0}

-- The possible types of a position have different names, where `name` gives the name of each.
abbrev pub HaveNames : (ℕ → List ℕ) → ObjectTypes → Type 0
HaveNames name possible = (T U : ℕ) → is_possible T possible ≡ true → is_possible U possible ≡ true → name T ≡ name U → T ≡ U

-- At each position the possible types have different names, and what fills a type name that is a leaf of the plan is a string.
module _ (name : ℕ → List ℕ) where
  abbrev mutual
    pub AreNamed : Plan → Type 0
    AreNamed (leaf_plan type weight fill) = IsFilled type fill
    AreNamed (position possible) = HaveNames name possible × TypesNamed possible

    pub TypesNamed : ObjectTypes → Type 0
    TypesNamed no_type = Unit {0}
    TypesNamed (object_type T weight nodes others) = NodesNamed nodes × TypesNamed others

    pub NodesNamed : Nodes → Type 0
    NodesNamed no_node = Unit {0}
    NodesNamed (node s below others) = AreNamed below × NodesNamed others
