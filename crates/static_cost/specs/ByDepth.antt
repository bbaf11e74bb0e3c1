-- Costs by depth, as the pass over rows keeps them.
use Rattle.std.specs.Prelude.{◌≡◌, ◌<◌, ℕ, get_or}
use Rattle.cost_num.specs.Capped.{capped}
use Rattle.plan_table.specs.Totals.{Totals}
use Rattle.static_cost.specs.declared.totals.ByDepth.{ByDepth}

-- At each depth it has the totals, each up to just above the cap.
abbrev pub HoldsTotals : Totals → ByDepth → Type 0
HoldsTotals t b = (d : ℕ) → d < 52 → (get_or b.sums d 0 ≡ capped (t.sum d)) × (get_or b.greatest d 0 ≡ capped (t.greatest d))
