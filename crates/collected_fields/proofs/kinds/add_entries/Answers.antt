use Rattle.std.proofs.Common.{◌≡◌}
use Rattle.plan_model.specs.Collecting.{applies_where}
use Rattle.collected_fields.specs.Prepared.{entry_data}
use Rattle.collected_fields.proofs.KindLaws.{none_so_far, one_so_far_at, all_so_far}
use Rattle.collected_fields.proofs.kinds.add_entries.Goals as goal

pub loop-entry-init : goal.loop-entry-init
loop-entry-init c = none_so_far (λ s T U entry. applies_where s T entry.0 ≡ applies_where s U entry.0) entry_data c.args.conditions.now.items c.args.entries.now

pub loop-entry-preserved : goal.loop-entry-preserved
loop-entry-preserved c = one_so_far_at (λ s T U entry. applies_where s T entry.0 ≡ applies_where s U entry.0) entry_data c.args.conditions.now.items c.args.entries.now c.loop-entry.conditions.items c.add_entry.new.conditions.items c.loop-entry.entry-index _ c.loop-entry-test.true c.loop-entry.invariant c.in_ok-add_entry.ensures

pub returns : goal.returns
returns c = all_so_far (λ s T U entry. applies_where s T entry.0 ≡ applies_where s U entry.0) entry_data c.args.conditions.now.items c.args.entries.now c.loop-entry.conditions.items c.loop-entry.entry-index c.loop-entry-test.false c.loop-entry.invariant
