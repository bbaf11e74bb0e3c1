-- What a response costs, by the IBM GraphQL Cost Directives Specification: the type cost counts values, the field cost counts entries.
use Rattle.std.specs.Prelude.{ℕ, ◌+◌}
use Rattle.response_model.specs.Plan.{Selected, Plan, leaf_plan, position, Nodes, no_node, node, weight_of, nodes_of}
use Rattle.response_model.specs.Response.{Tree, null, leaf, list_of, object, Elements, no_element, element, Entries, no_entry, entry}

-- The two parts of a cost: that of the types, and that of the fields.
pub data Part : Type 0 where
  types : Part
  fields : Part

-- What a value of a type of this weight adds to the part: the weight to the type cost, nothing to the field cost.
abbrev pub value_cost : Part → ℕ → ℕ
value_cost types weight = weight
value_cost fields weight = 0

-- What an entry adds to the part: nothing to the type cost, the weight of its field and the cost of its arguments to the field cost.
abbrev pub entry_cost : Part → Selected → ℕ
entry_cost types s = 0
entry_cost fields s = s.weight + s.arguments

abbrev mutual
  -- The cost of a value beside its plan. Null adds nothing, and a list nothing but its items, each by itself.
  -- An object adds what its own type says, and its entries. (Values that do not fit count what can be counted.)
  pub cost : Part → Plan → Tree → ℕ
  cost part plan null = 0
  cost part (leaf_plan type weight fill) (leaf json) = value_cost part weight
  cost part (position possible) (leaf json) = 0
  cost part plan (list_of ts) = elements_cost part plan ts
  cost part (leaf_plan type weight fill) (object T es) = 0
  cost part (position possible) (object T es) = value_cost part (weight_of T possible) + entries_cost part (nodes_of T possible) es

  -- Each entry counts once, whatever its value, and then its value.
  pub entries_cost : Part → Nodes → Entries → ℕ
  entries_cost part no_node es = 0
  entries_cost part (node s below others) no_entry = 0
  entries_cost part (node s below others) (entry k t es) = entry_cost part s + cost part below t + entries_cost part others es

  -- The sum of the items.
  pub elements_cost : Part → Plan → Elements → ℕ
  elements_cost part plan no_element = 0
  elements_cost part plan (element t ts) = cost part plan t + elements_cost part plan ts
