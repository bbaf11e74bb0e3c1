use Rattle.std.proofs.Common.{◌≡◌}
use Rattle.literal_loads.specs.KnownInputs.{AreRight}
use Rattle.literal_loads.proofs.loads.Loads.measure.Given as goal

abbrev pub invariant-loop-variable : goal.invariant-loop-variable
invariant-loop-variable l = record {
  of : l.self.of ≡ l.fn.self.of;
  right : AreRight l.fn.self → AreRight l.self;
}
