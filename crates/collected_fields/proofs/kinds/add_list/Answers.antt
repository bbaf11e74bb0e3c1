use Rattle.std.proofs.Common.{map, List, OnOk, subst}
use Rattle.collected_fields.specs.declared.steps.Step.{Step}
use Rattle.collected_fields.specs.Steps.{step_data}
use Rattle.collected_fields.specs.Kinds.{AddsSteps}
use Rattle.collected_fields.proofs.kinds.add_list.Goals as goal

pub returns : goal.returns
returns c = subst (λ (xs : List Step). OnOk c.add_steps.result (AddsSteps c.args.conditions.now.items c.add_steps.new.conditions.items (map step_data xs))) c.as_slice.ensures.value c.add_steps.ensures
