-- What comes to something together.
use Rattle.std.specs.Prelude.{◌≡◌, ◌+◌, ◌*◌, ℕ, suc, Option}
use Rattle.cost_directives.specs.ArgumentCosts.{leaf_cost, object_cost}
use Rattle.literal_loads.specs.declared.load.Load.{Load}
use Rattle.literal_loads.specs.declared.load.Sum.{Sum}

-- what a value costs at a place with this weight of its own
abbrev pub cost_at : Option ℕ → Load → ℕ
cost_at own load = leaf_cost own * load.leaves + object_cost own * load.objects + load.inside

-- Values come to `now` together.
pub record IsBoth (load other now : Load) : Type 0 where
  pub size : now.nodes ≡ load.nodes + other.nodes
  pub leaves : now.leaves ≡ load.leaves + other.leaves
  pub objects : now.objects ≡ load.objects + other.objects
  pub inside : now.inside ≡ load.inside + other.inside

-- A leaf has so many nodes.
pub record IsLeaf (nodes : ℕ) (leaf : Load) : Type 0 where
  pub size : leaf.nodes ≡ nodes
  pub leaves : leaf.leaves ≡ 1
  pub objects : leaf.objects ≡ 0
  pub inside : leaf.inside ≡ 0

-- An input object has so many nodes, and what is inside of it costs so much.
pub record HasInside (nodes cost : ℕ) (object : Load) : Type 0 where
  pub size : object.nodes ≡ nodes
  pub leaves : object.leaves ≡ 0
  pub objects : object.objects ≡ 1
  pub inside : object.inside ≡ cost

-- Items come to a list.
pub record IsList (items list : Load) : Type 0 where
  pub size : list.nodes ≡ suc items.nodes
  pub leaves : list.leaves ≡ items.leaves
  pub objects : list.objects ≡ items.objects
  pub inside : list.inside ≡ items.inside

-- Fields, none of which is refused, come to an input object.
pub record IsObject (fields : Sum) (object : Load) : Type 0 where
  pub fine : fields.refused ≡ 0
  pub size : object.nodes ≡ suc fields.nodes
  pub leaves : object.leaves ≡ 0
  pub objects : object.objects ≡ 1
  pub inside : object.inside ≡ fields.cost

-- Inputs come to `now` together.
pub record AreBoth (sum other now : Sum) : Type 0 where
  pub refusals : now.refused ≡ sum.refused + other.refused
  pub size : now.nodes ≡ sum.nodes + other.nodes
  pub price : now.cost ≡ sum.cost + other.cost

-- Inputs came to `sum`, where one of them came to `was`. That one has a value of so many nodes now, at this cost, and all come to `now`.
pub record IsInPlace (sum was : Sum) (nodes cost : ℕ) (now : Sum) : Type 0 where
  pub refusals : now.refused + was.refused ≡ sum.refused
  pub size : now.nodes + was.nodes ≡ sum.nodes + nodes
  pub price : now.cost + was.cost ≡ sum.cost + cost
