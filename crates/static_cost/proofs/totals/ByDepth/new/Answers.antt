use Rattle.static_cost.proofs.Depths.{nothing_taken}
use Rattle.static_cost.proofs.totals.ByDepth.new.Goals as goal

pub returns : goal.returns
returns c d within = nothing_taken 52 d
