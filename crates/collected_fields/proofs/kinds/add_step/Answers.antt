use Rattle.std.proofs.Common.{sym, subst, OnOk}
use Rattle.collected_fields.specs.declared.steps.Step.{Step}
use Rattle.collected_fields.specs.Steps.{step_data}
use Rattle.collected_fields.specs.Kinds.{AddsStep}
use Rattle.collected_fields.proofs.kinds.add_step.Goals as goal

pub returns-in-Inline : goal.returns-in-Inline
returns-in-Inline c = subst (λ (x : Step). OnOk c.add.result (AddsStep c.args.conditions.now.items c.add.new.conditions.items (step_data x))) (sym c.in-Inline.is) c.add.ensures
