-- The shares by one pass over the rows of a plan, from the first to the last, where the types of objects were chosen.
use Rattle.std.specs.Prelude.{ℕ, suc, ◌+◌, ◌*◌, List, [], ◌∷◌, get_or, drop, cond, eqb}
use Rattle.response_model.specs.Cost.{Part, value_cost, entry_cost}
use Rattle.response_model.specs.Bound.{greatest_in}
use Rattle.plan_table.specs.Rows.{PossibleType, Below, leaf_below, objects_below, Row}
use Rattle.plan_table.specs.Totals.{put_at}
use Rattle.cost_shares.specs.Shares.{NodeShare}

-- By depth, how many objects stand there, and of which type.
pub record Standing : Type 0 where
  pub objects : ℕ → ℕ
  pub types : ℕ → ℕ

-- at the beginning: one object of the root's type
abbrev pub at_root : ℕ → Standing
at_root root = record { objects = put_at 1 1 (λ d. 0); types = put_at 1 root (λ d. 0) }

-- how many entries the node of a row has
abbrev pub times_of : Standing → Row → ℕ
times_of t r = cond (eqb r.type (t.types r.depth)) (t.objects r.depth) 0

-- how many single values stand in them: one in each, or as many as the list's declared size
abbrev pub values_of : Standing → Row → ℕ
values_of t r = greatest_in r.selected.form r.selected.size (times_of t r)

-- the weight of the type of this number among some
abbrev pub weight_among : ℕ → List PossibleType → ℕ
weight_among T [] = 0
weight_among T (t ∷ possible) = cond (eqb t.number T) t.weight (weight_among T possible)

-- the weight of each of these values, where objects are of the type T
abbrev pub weight_below : ℕ → Below → ℕ
weight_below T (leaf_below type weight fill) = weight
weight_below T (objects_below possible) = weight_among T possible

abbrev pub row_share : Part → Standing → Row → ℕ → NodeShare
row_share part t r on = record {
  times = times_of t r;
  values = values_of t r;
  adds = times_of t r * entry_cost part r.selected + values_of t r * value_cost part (weight_below on r.below);
}

-- what stands behind a row, where objects below it are of the type `on`
abbrev pub standing_behind : Standing → Row → ℕ → Standing
standing_behind t r on = record { objects = put_at (suc r.depth) (values_of t r) t.objects; types = put_at (suc r.depth) on t.types }

unfoldable pub row_shares : Part → Standing → List Row → List ℕ → List NodeShare
row_shares part t [] chosen = []
row_shares part t (r ∷ rows) chosen = row_share part t r (get_or chosen 0 0) ∷ row_shares part (standing_behind t r (get_or chosen 0 0)) rows (drop 1 chosen)
