use Rattle.std.proofs.Common.{◌≡◌, ◌++◌, map, drop}
use Rattle.collected_fields.specs.Steps.{step_data}
use Rattle.collected_fields.proofs.steps.Draft.append.Given as goal

abbrev pub invariant-loop-step : goal.invariant-loop-step
invariant-loop-step l = record {
  parent : l.self.parent ≡ l.fn.self.parent;
  leaves : l.self.leaves ≡ l.fn.self.leaves;
  steps : map step_data l.self.steps.items ++ map step_data (drop l.step-index l.steps) ≡ map step_data l.fn.self.steps.items ++ map step_data l.steps;
}
