-- The greatest cost of a plan by one pass over its rows, from the last to the first.
use Rattle.std.specs.Prelude.{ℕ, suc, ◌+◌, max, List, [], ◌∷◌, Bool, cond, eqb}
use Rattle.response_model.specs.Cost.{Part, value_cost, entry_cost}
use Rattle.response_model.specs.Bound.{greatest_in}
use Rattle.plan_table.specs.Rows.{PossibleType, Below, leaf_below, objects_below, Row}

-- By depth: the sum over the nodes of the type that the pass is in, and the greatest cost of the types behind it at the same
-- position.
pub record Totals : Type 0 where
  pub sum : ℕ → ℕ
  pub greatest : ℕ → ℕ

-- a table in which x stands at d
abbrev pub put_at : {X : Type 0} → ℕ → X → (ℕ → X) → ℕ → X
put_at d x table e = cond (eqb e d) x (table e)

-- objects without entries
abbrev pub greatest_alone : Part → List PossibleType → ℕ
greatest_alone part [] = 0
greatest_alone part (t ∷ possible) = max (value_cost part t.weight) (greatest_alone part possible)

-- a value below a node, where the types that have nodes there cost this at most
abbrev pub greatest_below : Part → Below → ℕ → ℕ
greatest_below part (leaf_below type weight fill) greatest = value_cost part weight
greatest_below part (objects_below possible) greatest = max (greatest_alone part possible) greatest

-- a node with those behind it in its type
abbrev pub row_total : Part → Row → Totals → ℕ
row_total part r t = entry_cost part r.selected + greatest_in r.selected.form r.selected.size (greatest_below part r.below (t.greatest (suc r.depth))) + t.sum r.depth

-- an object of its type, with its node and those behind it
abbrev pub type_total : Part → Row → Totals → ℕ
type_total part r t = value_cost part r.weight + row_total part r t

-- where it is the first of its type, the type is added to those behind it
abbrev pub with_type : Bool → ℕ → ℕ → ℕ
with_type first cost greatest = cond first (max cost greatest) greatest

-- A row in front: what stood below it is done with.
abbrev pub totals_in_front : Part → Row → Totals → Totals
totals_in_front part r t = record {
  sum = put_at r.depth (cond r.first 0 (row_total part r t)) t.sum;
  greatest = put_at r.depth (with_type r.first (type_total part r t) (t.greatest r.depth)) (put_at (suc r.depth) 0 t.greatest);
}

unfoldable pub totals : Part → List Row → Totals
totals part [] = record { sum = λ d. 0; greatest = λ d. 0 }
totals part (r ∷ rows) = totals_in_front part r (totals part rows)

-- the greatest cost of rows whose root has this weight
abbrev pub greatest_in_rows : Part → ℕ → List Row → ℕ
greatest_in_rows part weight rows = max (value_cost part weight) ((totals part rows).greatest 1)
