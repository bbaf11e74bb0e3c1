-- The response that costs as much as the bound in one part, and when it is too large.
use Rattle.std.specs.Prelude.{◌≡◌, ℕ, suc, ◌+◌, ◌<◌, ◌≤◌}
use Rattle.response_model.specs.Plan.{Plan as PlanTree}
use Rattle.response_model.specs.Response.{Tree as ResponseTree, null, leaf, list_of, object, Elements, no_element, element, Entries, no_entry, entry}
use Rattle.response_model.specs.Cost.{Part}
use Rattle.response_model.specs.Filled.{filled}
use Rattle.plan_table.specs.declared.response.Tree.{Tree}
use Rattle.plan_table.specs.declared.table.Plan.{Plan}
use Rattle.plan_table.specs.Trees.{tree_of}
use Rattle.static_cost.specs.declared.filling.TheConstants.{VALUE_LIMIT}
use Rattle.plan_table.specs.TableBounds.{HoldsSound}

-- how many values a response has, lists and nulls included
abbrev mutual
  pub values : ResponseTree → ℕ
  values null = 1
  values (leaf json) = 1
  values (list_of ts) = suc (values_of_elements ts)
  values (object T es) = suc (values_of_entries es)

  pub values_of_elements : Elements → ℕ
  values_of_elements no_element = 0
  values_of_elements (element t ts) = values t + values_of_elements ts

  pub values_of_entries : Entries → ℕ
  values_of_entries no_entry = 0
  values_of_entries (entry k t es) = values t + values_of_entries es

-- It is the filled response, and has no more values than the limit.
abbrev pub IsWorst : Plan → Part → Tree → Type 0
IsWorst p part t = (plan : PlanTree) → HoldsSound p plan → (tree_of t ≡ filled part plan) × (values (filled part plan) ≤ VALUE_LIMIT)

-- The filled response has more values than the limit.
abbrev pub IsTooLarge : Plan → Part → Type 0
IsTooLarge p part = (plan : PlanTree) → HoldsSound p plan → VALUE_LIMIT < values (filled part plan)
