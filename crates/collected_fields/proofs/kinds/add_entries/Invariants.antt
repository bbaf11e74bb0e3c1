use Rattle.std.proofs.Common.{◌≡◌}
use Rattle.plan_model.specs.Collecting.{applies_where}
use Rattle.collected_fields.specs.Prepared.{entry_data}
use Rattle.collected_fields.proofs.KindLaws.{SoFar}
use Rattle.collected_fields.proofs.kinds.add_entries.Given as goal

abbrev pub invariant-loop-entry : goal.invariant-loop-entry
invariant-loop-entry l = SoFar (λ s T U entry. applies_where s T entry.0 ≡ applies_where s U entry.0) entry_data l.fn.conditions.items l.entries l.conditions.items l.entry-index
