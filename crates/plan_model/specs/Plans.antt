-- The plan of a position: for each possible type its nodes, one for each response key, and below each node again a plan.
use Rattle.std.specs.Prelude.{◌≡◌, ℕ, suc, ◌+◌, List, [], ◌∷◌}
use Rattle.cost_num.specs.Capped.{capped}
use Rattle.response_model.specs.Plan.{Selected, Plan, leaf_plan, position, ObjectTypes, no_type, object_type, Nodes, no_node, node}
use Rattle.cost_directives.specs.Weights.{type_in}
use Rattle.plan_model.specs.SelectedFields.{Setting, Place, leaf_place, object_place, place_at}
use Rattle.plan_model.specs.Merging.{Position, keys_at, call_under, selected_under, below_key}

-- A plan counts what arguments cost up to just above the cap.
abbrev pub with_capped : Selected → Selected
with_capped s = record s { arguments = capped s.arguments }

abbrev pub type_weight : Setting → ℕ → ℕ
type_weight e T = (type_in e.weights T).weight

-- How many nodes a plan has. The root is none.
abbrev mutual
  pub node_count : Plan → ℕ
  node_count (leaf_plan type weight fill) = 0
  node_count (position possible) = nodes_of_types possible

  pub nodes_of_types : ObjectTypes → ℕ
  nodes_of_types no_type = 0
  nodes_of_types (object_type T weight nodes others) = nodes_of_one nodes + nodes_of_types others

  pub nodes_of_one : Nodes → ℕ
  nodes_of_one no_node = 0
  nodes_of_one (node s below others) = suc (node_count below + nodes_of_one others)

module _ (e : Setting) where
  abbrev mutual
    -- It is the plan of a place whose selections are those of the position.
    pub IsPlan : Place → Position → Plan → Type 0
    IsPlan (leaf_place type weight fill) p (leaf_plan type' weight' fill') = (type' ≡ type) × (weight' ≡ weight) × (fill' ≡ fill)
    IsPlan (object_place Ts) p (position possible) = ArePossible Ts p possible
    IsPlan (leaf_place type weight fill) p (position possible) = ⊥
    IsPlan (object_place Ts) p (leaf_plan type' weight' fill') = ⊥

    -- the possible types in their order, each with its weight and its nodes
    pub ArePossible : List ℕ → Position → ObjectTypes → Type 0
    ArePossible [] p no_type = Unit {0}
    ArePossible (T ∷ Ts) p (object_type U weight nodes others) = (U ≡ T) × (weight ≡ type_weight e T) × AreNodes T (keys_at e T p) p nodes × ArePossible Ts p others
    ArePossible [] p (object_type U weight nodes others) = ⊥
    ArePossible (T ∷ Ts) p no_type = ⊥

    -- the nodes of these keys
    pub AreNodes : ℕ → List (List ℕ) → Position → Nodes → Type 0
    AreNodes T [] p no_node = Unit {0}
    AreNodes T (k ∷ ks) p (node s below others) = (s ≡ with_capped (selected_under e T k p)) × IsPlan (place_at e T (call_under e T k p)) (below_key e T k p) below × AreNodes T ks p others
    AreNodes T [] p (node s below others) = ⊥
    AreNodes T (k ∷ ks) p no_node = ⊥
