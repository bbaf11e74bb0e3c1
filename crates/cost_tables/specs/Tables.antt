-- The lines of the table of an operation.
use Rattle.std.specs.Prelude.{◌≡◌, ℕ, zero, suc, ◌-◌, Bool, true, false, List, [], ◌∷◌, ◌++◌, length, map, take, drop, get_or, codes}
use Rattle.std.specs.Fmt.{decimal}
use Rattle.std.specs.List.{sum_by}
use Rattle.cost_num.specs.Capped.{capped}
use Rattle.cost_num.specs.declared.Cost.{Cost}
use Rattle.response_model.specs.Cost.{Part, types, fields}
use Rattle.schema_model.specs.SchemaData.{type_at}
use Rattle.plan_table.specs.declared.rows.NodeRow.{NodeRow}
use Rattle.response_model.specs.Plan.{Plan as PlanTree}
use Rattle.plan_table.specs.declared.table.Plan.{Plan}
use Rattle.plan_table.specs.TableBounds.{HoldsSound, IsBoundIn}
use Rattle.static_cost.specs.CostBound.{IsWithin}
use Rattle.cost_shares.specs.declared.share.Share.{Share}
use Rattle.cost_shares.specs.TableShares.{AreShares, root_adds, MakeBound}
use Rattle.aligned_lines.specs.Aligned.{aligned}
use Rattle.cost_tables.specs.declared.TheConstants.{SHOWN}
use Rattle.cost_tables.specs.declared.above.Above.{Above}
use Rattle.cost_tables.specs.Cells.{told_amount, at_root, stack_behind, schema_in, node_cells}

-- a line that is no node's, with what stands in its first two columns and in the last two
abbrev pub plain_cells : List ℕ → List ℕ → List ℕ → ℕ → ℕ → List (List ℕ)
plain_cells name on times t f = name ∷ on ∷ times ∷ [] ∷ [] ∷ [] ∷ told_amount t ∷ told_amount f ∷ []

-- what stands above the columns
abbrev pub headings : List (List ℕ)
headings = codes "node" ∷ codes "on" ∷ codes "times" ∷ codes "size" ∷ codes "weight" ∷ codes "arguments" ∷ codes "types" ∷ codes "fields" ∷ []

-- no share
abbrev pub nothing : Share
nothing = record { times = 0; values = 0; adds = 0 }

abbrev pub share_at : ℕ → List Share → Share
share_at at shares = get_or shares at nothing

abbrev pub adds_of : Share → ℕ
adds_of s = s.adds

-- what shares add, up to just above the cap
abbrev pub added : List Share → ℕ
added shares = capped (sum_by adds_of shares)

module _ (p : Plan) where
  -- the object at the root, of which there is one
  abbrev pub root_cells : List (List ℕ)
  root_cells = plain_cells (codes "data") (type_at (schema_in p) p.root.number).name (codes "1") (root_adds p types) (root_adds p fields)

  -- the nodes of these rows, where the shares from this place on are theirs
  unfoldable pub nodes_cells : List Share → List Share → ℕ → List Above → List NodeRow → List (List (List ℕ))
  nodes_cells ts fs at stack [] = []
  nodes_cells ts fs at stack (n ∷ ns) = node_cells p stack n (share_at at ts) (share_at at fs) ∷ nodes_cells ts fs (suc at) (stack_behind stack n) ns

  -- the nodes that are shown
  abbrev pub shown_cells : List Share → List Share → List (List (List ℕ))
  shown_cells ts fs = nodes_cells ts fs 0 (at_root ∷ []) (take SHOWN p.rows.items)

-- the others, where there are some: how many they are, and what they add together
abbrev pub other_cells : ℕ → ℕ → ℕ → List (List (List ℕ))
other_cells zero t f = []
other_cells (suc more) t f = plain_cells (decimal (suc more) ++ codes " more") [] [] t f ∷ []

abbrev pub price_cells : Cost → List (List ℕ)
price_cells price = plain_cells (codes "price") [] [] price.types price.fields

-- the root, the nodes in depth-first order up to so many, and the others in one line
abbrev pub inner_cells : Plan → List Share → List Share → List (List (List ℕ))
inner_cells p ts fs = root_cells p ∷ (shown_cells p ts fs ++ other_cells (length p.rows.items - SHOWN) (added (drop SHOWN ts)) (added (drop SHOWN fs)))

-- the columns' headings, those lines, and the price
abbrev pub table_cells : Plan → Cost → List Share → List Share → List (List (List ℕ))
table_cells p price ts fs =
    headings ∷ (inner_cells p ts fs ++ (price_cells price ∷ []))

-- which columns stand at the left: the paths, the types and the sizes
abbrev pub left_columns : List Bool
left_columns = true ∷ true ∷ false ∷ true ∷ []

-- ---- a table

-- What each node of the plan adds to this part of the bound, for each row of its table. With what the root adds it is the bound.
pub record AreSharesOf (p : Plan) (part : Part) (shares : List Share) : Type 0 where
  pub nodes : AreShares p part shares
  pub rows : length shares ≡ length p.rows.items
  pub sum : MakeBound p part shares

-- The text is the table of the plan, with the shares of its nodes in both parts.
abbrev pub IsTable : Plan → Cost → List ℕ → Type 0
IsTable p price text = (ts fs : List Share) × AreSharesOf p types ts × AreSharesOf p fields fs × (text ≡ aligned left_columns (table_cells p price ts fs))

-- The price is the bound of a plan that the table holds, in both parts within the cap.
abbrev pub IsPriceOf : Plan → Cost → Type 0
IsPriceOf p price = (tree : PlanTree) × HoldsSound p tree × IsBoundIn p tree price × IsWithin price

-- ---- its columns

-- a number in a line for the nodes that aren't shown, where there are some
abbrev pub for_others : ℕ → ℕ → List ℕ
for_others zero n = []
for_others (suc more) n = n ∷ []

-- What the lines between the headings and the price add to a part of the cost: the root, the nodes that are shown, and the others together.
abbrev pub column : Plan → Part → List Share → List ℕ
column p part shares = root_adds p part ∷ (map adds_of (take SHOWN shares) ++ for_others (length p.rows.items - SHOWN) (added (drop SHOWN shares)))

-- the cell of this number in each line, counted from 0
abbrev pub cells_in : ℕ → List (List (List ℕ)) → List (List ℕ)
cells_in at lines = map (λ l. get_or l at []) lines
