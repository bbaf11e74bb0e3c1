use Rattle.collected_fields.specs.Steps.{SameStep, step_data}
use Rattle.collected_fields.proofs.KindLaws.{SoFar}
use Rattle.collected_fields.proofs.kinds.add_steps.Given as goal

abbrev pub invariant-loop-step : goal.invariant-loop-step
invariant-loop-step l = SoFar SameStep step_data l.fn.conditions.items l.steps l.conditions.items l.step-index
