-- What each node of a plan adds to the cost of a response.
use Rattle.std.specs.Prelude.{ℕ, ◌+◌, ◌*◌, List, [], ◌∷◌, ◌++◌, length, cond, eqb}
use Rattle.std.specs.List.{flat_map, sum_by}
use Rattle.response_model.specs.Plan.{Selected, Plan, leaf_plan, position, ObjectTypes, no_type, object_type, Nodes, no_node, node, weight_of}
use Rattle.response_model.specs.Response.{Tree, null, leaf, list_of, object, Elements, no_element, element, Entries, no_entry, entry}
use Rattle.response_model.specs.Cost.{Part, value_cost, entry_cost}

-- ---- values

-- The single values that a value holds: a list holds those of its items, null holds none, and any other value holds itself.
abbrev mutual
  pub single_values : Tree → List Tree
  single_values null = []
  single_values (leaf json) = leaf json ∷ []
  single_values (list_of ts) = values_of_items ts
  single_values (object T es) = object T es ∷ []

  pub values_of_items : Elements → List Tree
  values_of_items no_element = []
  values_of_items (element t ts) = single_values t ++ values_of_items ts

-- The weight of the type of a single value, beside its plan.
abbrev pub weight_of_value : Plan → Tree → ℕ
weight_of_value plan null = 0
weight_of_value (leaf_plan type weight fill) (leaf json) = weight
weight_of_value (position possible) (leaf json) = 0
weight_of_value plan (list_of ts) = 0
weight_of_value (leaf_plan type weight fill) (object T es) = 0
weight_of_value (position possible) (object T es) = weight_of T possible

-- What single values add to the part, apart from their entries.
abbrev pub values_add : Part → Plan → List Tree → ℕ
values_add part plan vs = sum_by (λ v. value_cost part (weight_of_value plan v)) vs

-- ---- entries

-- The entries of a value that is an object of this type.
abbrev pub entries_in : ℕ → Tree → List Entries
entries_in T null = []
entries_in T (leaf json) = []
entries_in T (list_of ts) = []
entries_in T (object U es) = cond (eqb T U) (es ∷ []) []

-- The value of the first of an object's entries, and the entries behind it.
abbrev pub first_value : Entries → List Tree
first_value no_entry = []
first_value (entry k t es) = t ∷ []

abbrev pub other_entries : Entries → List Entries
other_entries no_entry = []
other_entries (entry k t es) = es ∷ []

-- `told` tells something of a node by the values of all its entries.
module _ {X : Type 0} (told : Selected → Plan → List Tree → X) where
  abbrev mutual
    -- What is told of each node below a place where these single values stand, in depth-first order.
    pub each_node : Plan → List Tree → List X
    each_node (leaf_plan type weight fill) vs = []
    each_node (position possible) vs = each_of_types possible vs

    pub each_of_types : ObjectTypes → List Tree → List X
    each_of_types no_type vs = []
    each_of_types (object_type T weight nodes others) vs = each_of_nodes nodes (flat_map (entries_in T) vs) ++ each_of_types others vs

    -- Here stand the entries of all objects of the type, from the first of these nodes on.
    pub each_of_nodes : Nodes → List Entries → List X
    each_of_nodes no_node ess = []
    each_of_nodes (node s below others) ess =
        told s below (flat_map first_value ess)
        ∷ (each_node below (flat_map single_values (flat_map first_value ess)) ++ each_of_nodes others (flat_map other_entries ess))

-- ---- shares

pub record NodeShare : Type 0 where
  -- how many entries the node has in the response
  pub times : ℕ
  -- how many single values stand in them
  pub values : ℕ
  -- what these entries and values add to the part
  pub adds : ℕ

abbrev pub node_share : Part → Selected → Plan → List Tree → NodeShare
node_share part s below ts = record {
  times = length ts;
  values = length (flat_map single_values ts);
  adds = length ts * entry_cost part s + values_add part below (flat_map single_values ts);
}

-- What each node adds to the cost of a response, in depth-first order.
abbrev pub shares_in : Part → Plan → Tree → List NodeShare
shares_in part plan t = each_node (node_share part) plan (single_values t)

-- What all of them add.
abbrev pub sum_of_shares : List NodeShare → ℕ
sum_of_shares shares = sum_by (λ s. s.adds) shares
