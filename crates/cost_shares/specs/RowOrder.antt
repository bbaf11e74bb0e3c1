-- Which node each place of a list of shares is of.
use Rattle.std.specs.Prelude.{List}
use Rattle.response_model.specs.Plan.{Selected, Plan}
use Rattle.response_model.specs.Response.{Tree}
use Rattle.plan_table.specs.Rows.{Row, Below, below_in}
use Rattle.cost_shares.specs.Shares.{single_values, each_node}

-- what a node says, and what a row says of what stands below its node
abbrev pub Told : Type 0
Told = Selected × Below

abbrev pub row_told : Row → Told
row_told r = (r.selected, r.below)

-- The same of each node of a plan, in the order of its shares.
abbrev pub nodes_told : Plan → Tree → List Told
nodes_told plan t = each_node (λ s below ts. (s, below_in below)) plan (single_values t)
