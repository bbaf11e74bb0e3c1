-- The filled response: nothing is null, each list has its declared size, and each object is of the first type that attains the greatest cost of its position.
use Rattle.std.specs.Prelude.{◌≡◌, ◌⊎◌, ◌<◌, ℕ, zero, suc, ◌+◌, Bool, true, cond, leb, Option, Some, None}
use Rattle.response_model.specs.Plan.{Form, single, listed, Plan, leaf_plan, position, ObjectTypes, no_type, object_type, Nodes, no_node, node, nodes_of}
use Rattle.response_model.specs.Response.{Tree, null, leaf, list_of, object, Elements, no_element, element, Entries, no_entry, entry, count}
use Rattle.response_model.specs.Cost.{Part, value_cost}
use Rattle.response_model.specs.Bound.{greatest_of_types, greatest_of_nodes}

-- The first of the possible types whose objects cost as much as n at most: each type before it costs less.
abbrev pub IsFirstType : Part → ℕ → ObjectTypes → ℕ → Type 0
IsFirstType part n no_type T = ⊥
IsFirstType part n (object_type U weight nodes others) T =
    ((U ≡ T) × (value_cost part weight + greatest_of_nodes part nodes ≡ n)) ⊎ ((value_cost part weight + greatest_of_nodes part nodes < n) × IsFirstType part n others T)

-- The number of items in a filled list: its declared size, and none where it may have any length.
abbrev pub filled_count : Option ℕ → ℕ
filled_count None = 0
filled_count (Some size) = size

abbrev mutual
  -- A value is filled, for this part of the cost.
  pub IsFilled : Part → Form → Option ℕ → Plan → Tree → Type 0
  IsFilled part form size plan null = ⊥
  IsFilled part (single nullable) size (leaf_plan type weight fill) (leaf json) = json ≡ fill
  IsFilled part (single nullable) size (position possible) (leaf json) = ⊥
  IsFilled part (listed nullable item_nullable) size plan (leaf json) = ⊥
  IsFilled part (single nullable) size plan (list_of ts) = ⊥
  IsFilled part (listed nullable item_nullable) size plan (list_of ts) = (count ts ≡ filled_count size) × ElementsFilled part plan ts
  IsFilled part (single nullable) size (leaf_plan type weight fill) (object T es) = ⊥
  IsFilled part (single nullable) size (position possible) (object T es) = IsFirstType part (greatest_of_types part possible) possible T × EntriesFilled part (nodes_of T possible) es
  IsFilled part (listed nullable item_nullable) size plan (object T es) = ⊥

  -- Each node has its entry, and each entry is filled.
  pub EntriesFilled : Part → Nodes → Entries → Type 0
  EntriesFilled part no_node no_entry = Unit {0}
  EntriesFilled part no_node (entry k t es) = ⊥
  EntriesFilled part (node s below others) no_entry = ⊥
  EntriesFilled part (node s below others) (entry k t es) = (k ≡ s.key) × IsFilled part s.form s.size below t × EntriesFilled part others es

  -- Each item is filled.
  pub ElementsFilled : Part → Plan → Elements → Type 0
  ElementsFilled part plan no_element = Unit {0}
  ElementsFilled part plan (element t ts) = IsFilled part (single true) None plan t × ElementsFilled part plan ts

-- A list of n times the same item.
abbrev pub repeated : ℕ → Tree → Elements
repeated zero t = no_element
repeated (suc n) t = element t (repeated n t)

-- An entry's value, where each of its values is t.
abbrev pub filled_in : Form → Option ℕ → Tree → Tree
filled_in (single nullable) size t = t
filled_in (listed nullable item_nullable) size t = list_of (repeated (filled_count size) t)

-- Whether a type attains the greatest cost, with respect to the types after it.
abbrev pub attains : Part → ℕ → Nodes → ObjectTypes → Bool
attains part weight nodes others = leb (greatest_of_types part others) (value_cost part weight + greatest_of_nodes part nodes)

-- The type that the filled response takes at a position.
abbrev pub filled_type : Part → ObjectTypes → ℕ
filled_type part no_type = 0
filled_type part (object_type T weight nodes others) = cond (attains part weight nodes others) T (filled_type part others)

abbrev mutual
  -- The filled response by recursion over the plan.
  pub filled : Part → Plan → Tree
  filled part (leaf_plan type weight fill) = leaf fill
  filled part (position possible) = object (filled_type part possible) (filled_object part possible)

  -- The entries of the object at a position.
  pub filled_object : Part → ObjectTypes → Entries
  filled_object part no_type = no_entry
  filled_object part (object_type T weight nodes others) = cond (attains part weight nodes others) (filled_entries part nodes) (filled_object part others)

  -- An entry for each node.
  pub filled_entries : Part → Nodes → Entries
  filled_entries part no_node = no_entry
  filled_entries part (node s below others) = entry s.key (filled_in s.form s.size (filled part below)) (filled_entries part others)
