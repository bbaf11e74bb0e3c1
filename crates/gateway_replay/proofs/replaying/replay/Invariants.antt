use Rattle.std.proofs.Common.{◌≡◌, ◌+◌, ◌*◌, ◌≤◌, true, length, map, take}
use Rattle.account_shared.specs.Views.{Belongs}
use Rattle.replay_scripts.specs.Steps.{step_data}
use Rattle.gateway_core.specs.Gates.{rules_of}
use Rattle.gateway_replay.specs.Stretches.{requests_of, JustOpen, RunsTo}
use Rattle.gateway_replay.proofs.replaying.replay.Given as goal

abbrev pub invariant-loop-step : goal.invariant-loop-step
invariant-loop-step g l = record {
  belong : Belongs l.passes l.gate.accounts;
  just : JustOpen l.passes (requests_of l.opens.items);
  count : length l.opens.items ≤ l.step-index;
  made : l.passes.made ≤ l.fn.passes.made + 2 * l.step-index;
  steps : l.told ≡ true → l.report.steps ≡ length l.script.steps.items;
  runs : RunsTo (rules_of l.gate) l.fn.passes l.passes (map step_data (take l.step-index l.script.steps.items)) (requests_of l.opens.items) l.report l.told;
}
