use Rattle.static_cost.specs.CostBound.{IsWithin}
use Rattle.price_bench.proofs.pricing.priced.Given as goal

abbrev pub invariant-again : goal.invariant-again
invariant-again l = IsWithin l.bound
