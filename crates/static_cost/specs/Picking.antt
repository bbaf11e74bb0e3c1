-- What the pass over rows keeps to choose types.
use Rattle.std.specs.Prelude.{◌≡◌, ◌<◌, ℕ, List, get_or}
use Rattle.response_model.specs.Cost.{Part}
use Rattle.plan_table.specs.Rows.{Row}
use Rattle.plan_table.specs.Totals.{totals}
use Rattle.static_cost.specs.declared.choices.Picks.{Picks}
use Rattle.static_cost.specs.ByDepth.{HoldsTotals}
use Rattle.static_cost.specs.Choices.{picked}

-- The costs and the types are those of the rows that were taken.
abbrev pub HoldsPicks : Part → List Row → Picks → Type 0
HoldsPicks part rows b = HoldsTotals (totals part rows) b.costs × ((d : ℕ) → d < 52 → get_or b.types d 0 ≡ picked part rows d)
