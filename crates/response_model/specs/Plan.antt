-- A plan: what an operation may get, position by position, with the weights and declared sizes that decide what it costs.
-- Weights and costs are whole numbers of one unit. Texts are lists of bytes. Object types and leaf types are told by numbers.
use Rattle.std.specs.Prelude.{ℕ, List, Bool, false, cond, ◌||◌, eqb, Option}
use Rattle.serde_json.specs.Data.{Data}

-- The form of a field's value: one value, or a list of values. It says where null may stand.
pub data Form : Type 0 where
  single : (nullable : Bool) → Form
  listed : (nullable : Bool) → (item_nullable : Bool) → Form

-- What a node says of its entry in a response, apart from what stands below it.
pub record Selected : Type 0 where
  -- the response key: the alias, or the field's name
  pub key : List ℕ
  -- the field's name
  pub field : List ℕ
  -- whether each object below has its type name in an entry of its own, under the added alias
  pub asked : Bool
  pub form : Form
  -- the declared size of the list: the greatest number of its items. None: it is no list, or a list of any length.
  pub size : Option ℕ
  -- the weight of the field
  pub weight : ℕ
  -- the cost of the field's arguments
  pub arguments : ℕ

-- What may stand in a leaf: the type name of the leaf's own object, as `__typename` gives it, or a value of a scalar or enum type.
pub data LeafType : Type 0 where
  type_name : LeafType
  numbered : (type : ℕ) → LeafType

mutual
  -- A plan of one value.
  -- A leaf has its type, the weight of that type, and the value that fills it where a response is filled.
  -- At a position the value is an object of one of the possible object types.
  pub data Plan : Type 0 where
    leaf_plan : (type : LeafType) → (weight : ℕ) → (fill : Data) → Plan
    position : (possible : ObjectTypes) → Plan

  -- The possible object types of a position, in their order, each with its weight and its nodes.
  pub data ObjectTypes : Type 0 where
    no_type : ObjectTypes
    object_type : (type : ℕ) → (weight : ℕ) → (nodes : Nodes) → (others : ObjectTypes) → ObjectTypes

  -- The nodes of an object type, in the order of its entries: one for each response key, with the plan of its value, or of each item of its list.
  pub data Nodes : Type 0 where
    no_node : Nodes
    node : (selected : Selected) → (below : Plan) → (others : Nodes) → Nodes

-- Whether the object type is possible at the position.
abbrev pub is_possible : ℕ → ObjectTypes → Bool
is_possible T no_type = false
is_possible T (object_type U weight nodes others) = eqb U T || is_possible T others

-- The weight of the object type at the position, where it is possible.
abbrev pub weight_of : ℕ → ObjectTypes → ℕ
weight_of T no_type = 0
weight_of T (object_type U weight nodes others) = cond (eqb U T) weight (weight_of T others)

-- The nodes of the object type at the position, where it is possible.
abbrev pub nodes_of : ℕ → ObjectTypes → Nodes
nodes_of T no_type = no_node
nodes_of T (object_type U weight nodes others) = cond (eqb U T) nodes (nodes_of T others)
