-- What the nodes of a table's plan add to the bound.
use Rattle.std.specs.Prelude.{◌≡◌, ℕ, ◌+◌, List, map}
use Rattle.cost_num.specs.Capped.{capped}
use Rattle.cost_num.specs.declared.Cost.{Cost}
use Rattle.response_model.specs.Plan.{Plan as PlanTree}
use Rattle.response_model.specs.Cost.{Part, value_cost}
use Rattle.response_model.specs.Filled.{filled}
use Rattle.plan_model.specs.Plans.{type_weight}
use Rattle.plan_table.specs.declared.table.Plan.{Plan}
use Rattle.plan_table.specs.Tables.{setting_in}
use Rattle.plan_table.specs.TableBounds.{HoldsSound, IsBoundIn}
use Rattle.static_cost.specs.CostBound.{component}
use Rattle.cost_shares.specs.declared.share.Share.{Share}
use Rattle.cost_shares.specs.Shares.{NodeShare, shares_in, sum_of_shares}

abbrev pub share_seen : Share → NodeShare
share_seen s = record { times = s.times; values = s.values; adds = s.adds }

abbrev pub shares_seen : List Share → List NodeShare
shares_seen shares = map share_seen shares

-- a share whose counts stop just above the cap
abbrev pub counted : NodeShare → NodeShare
counted s = record { times = capped s.times; values = capped s.values; adds = s.adds }

-- They are the shares of the nodes in the filled response of the plan that the table holds.
abbrev pub AreShares : Plan → Part → List Share → Type 0
AreShares p part shares = (tree : PlanTree) → HoldsSound p tree → shares_seen shares ≡ map counted (shares_in part tree (filled part tree))

-- what the object at the root adds
abbrev pub root_adds : Plan → Part → ℕ
root_adds p part = value_cost part (type_weight (setting_in p) p.root.number)

-- What the root adds and what the nodes add is the bound.
abbrev pub MakeBound : Plan → Part → List Share → Type 0
MakeBound p part shares = (tree : PlanTree) (cost : Cost) → HoldsSound p tree → IsBoundIn p tree cost → root_adds p part + sum_of_shares (shares_seen shares) ≡ component part cost
