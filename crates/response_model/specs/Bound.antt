-- The bound: the least number that no response of a plan exceeds, and the recursion over the plan that gives it.
use Rattle.std.specs.Prelude.{◌≡◌, ℕ, ◌+◌, ◌*◌, ◌≤◌, ◌<◌, max, Bool, true, false, Option, Some, None}
use Rattle.serde_json.specs.Data.{Data}
use Rattle.response_model.specs.Plan.{Form, single, listed, Plan, leaf_plan, position, ObjectTypes, no_type, object_type, Nodes, no_node, node, is_possible}
use Rattle.response_model.specs.Response.{Tree, is_null, IsLeafOf, Fits, SizesKept}
use Rattle.response_model.specs.Cost.{Part, value_cost, entry_cost, cost}

-- A response of the plan: it fits, it keeps the declared sizes, and at its root null may stand and no list.
abbrev pub IsResponse : (ℕ → Data → Bool) → Plan → Tree → Type 0
IsResponse holds plan t = Fits holds (single true) plan t × SizesKept None plan t

-- The bound of a part of the cost: no response of the plan costs more, and one costs as much.
pub record IsBound (holds : ℕ → Data → Bool) (part : Part) (plan : Plan) (bound : ℕ) : Type 0 where
  pub upper : (t : Tree) → IsResponse holds plan t → cost part plan t ≤ bound
  pub attained : (t : Tree) × IsResponse holds plan t × (cost part plan t ≡ bound)

-- Some response of the plan costs more than n.
abbrev pub Exceeds : (ℕ → Data → Bool) → Part → Plan → ℕ → Type 0
Exceeds holds part plan n = (t : Tree) × IsResponse holds plan t × (n < cost part plan t)

-- What the values of one entry cost at most, where each costs at most n: one value, as many as the declared size, or values that cost nothing.
abbrev pub greatest_in : Form → Option ℕ → ℕ → ℕ
greatest_in (single nullable) size n = n
greatest_in (listed nullable item_nullable) None n = 0
greatest_in (listed nullable item_nullable) (Some size) n = size * n

abbrev mutual
  -- The greatest cost by recursion over the plan.
  pub greatest_cost : Part → Plan → ℕ
  greatest_cost part (leaf_plan type weight fill) = value_cost part weight
  greatest_cost part (position possible) = greatest_of_types part possible

  -- The greatest over the possible types, each with its nodes.
  pub greatest_of_types : Part → ObjectTypes → ℕ
  greatest_of_types part no_type = 0
  greatest_of_types part (object_type T weight nodes others) = max (value_cost part weight + greatest_of_nodes part nodes) (greatest_of_types part others)

  -- The sum over the nodes of a type.
  pub greatest_of_nodes : Part → Nodes → ℕ
  greatest_of_nodes part no_node = 0
  greatest_of_nodes part (node s below others) = entry_cost part s + greatest_in s.form s.size (greatest_cost part below) + greatest_of_nodes part others

-- A list of any length stands only where its items are leaves that weigh nothing.
abbrev pub IsCountable : Form → Option ℕ → Plan → Type 0
IsCountable (single nullable) size plan = Unit {0}
IsCountable (listed nullable item_nullable) (Some size) plan = Unit {0}
IsCountable (listed nullable item_nullable) None (leaf_plan type weight fill) = weight ≡ 0
IsCountable (listed nullable item_nullable) None (position possible) = ⊥

-- There is a possible type.
abbrev pub HasType : ObjectTypes → Type 0
HasType no_type = ⊥
HasType (object_type T weight nodes others) = Unit {0}

module _ (holds : ℕ → Data → Bool) where
  abbrev mutual
    -- A plan is sound where each position has a type, and each type but once,
    -- where each list of any length has leaves that weigh nothing, and where what fills a leaf may stand in it.
    pub IsSound : Plan → Type 0
    IsSound (leaf_plan type weight fill) = (is_null fill ≡ false) × IsLeafOf holds type fill fill
    IsSound (position possible) = HasType possible × TypesSound possible

    pub TypesSound : ObjectTypes → Type 0
    TypesSound no_type = Unit {0}
    TypesSound (object_type T weight nodes others) = (is_possible T others ≡ false) × NodesSound nodes × TypesSound others

    pub NodesSound : Nodes → Type 0
    NodesSound no_node = Unit {0}
    NodesSound (node s below others) = IsCountable s.form s.size below × IsSound below × NodesSound others
