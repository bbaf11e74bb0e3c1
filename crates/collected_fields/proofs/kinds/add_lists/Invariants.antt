use Rattle.collected_fields.specs.Prepared.{list_data}
use Rattle.collected_fields.specs.Steps.{SameSteps}
use Rattle.collected_fields.proofs.KindLaws.{SoFar}
use Rattle.collected_fields.proofs.kinds.add_lists.Given as goal

abbrev pub invariant-loop-list : goal.invariant-loop-list
invariant-loop-list l = SoFar (λ s T U l. SameSteps s T U l.steps) list_data l.fn.conditions.items l.lists l.conditions.items l.list-index
