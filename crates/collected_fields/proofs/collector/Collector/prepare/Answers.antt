use Rattle.std.proofs.Common.{sym, map, subst, ap, length, ◌∙◌}
use Rattle.collected_fields.specs.Prepared.{list_data, entry_data, AreSound}
use Rattle.collected_fields.specs.Views.{setting_of_planning}
use Rattle.collected_fields.proofs.CollectLaws.{ready_made, one_listed}
use Rattle.collected_fields.proofs.collector.Collector.prepare.Goals as goal

pub returns-clause-ready : goal.returns-clause-ready
returns-clause-ready c = ready_made _ (subst (λ p. AreSound (setting_of_planning p) (map list_data c.in_ok-tables.tables.lists.items) (map entry_data c.in_ok-tables.tables.entries.items)) (sym c.in_ok-tables.ensures.planning) c.in_ok-tables.ensures.sound) (c.in_ok-joins.ensures.count ∙ ap length c.as_slice-count.ensures.value) c.in_ok-joins.ensures.lists c.new-kept.ensures (c.new-reaches.ensures _ _)

pub returns-clause-root : goal.returns-clause-root
returns-clause-root c = one_listed _ _ c.in_ok-tables.number (ready_made _ (subst (λ p. AreSound (setting_of_planning p) (map list_data c.in_ok-tables.tables.lists.items) (map entry_data c.in_ok-tables.tables.entries.items)) (sym c.in_ok-tables.ensures.planning) c.in_ok-tables.ensures.sound) (c.in_ok-joins.ensures.count ∙ ap length c.as_slice-count.ensures.value) c.in_ok-joins.ensures.lists c.new-kept.ensures (c.new-reaches.ensures _ _)) c.in_ok-tables.ensures.root
