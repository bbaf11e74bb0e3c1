use Rattle.std.proofs.Common.{◌∙◌, ap, map}
use Rattle.collected_fields.specs.Prepared.{list_data, entry_data, reached_fragment}
use Rattle.collected_fields.specs.Views.{setting_of_planning, fragment_seen}
use Rattle.collected_fields.proofs.PrepareLaws.{all_sound}
use Rattle.collected_fields.proofs.prepare.tables_of.Goals as goal

pub returns-clause-sound : goal.returns-clause-sound
returns-clause-sound c = all_sound (record (setting_of_planning c.args.planning) { fragments = map reached_fragment c.in_ok-fragments.fragments.items.items }) (map fragment_seen c.args.planning.fragments.now) (map list_data c.entries_of.new.lists.items) (map list_data c.add_list-2.new.lists.items) (map entry_data c.in_ok-entries.entries.items) _ c.in_ok-number.number
    (ap (map reached_fragment) c.in_ok-fragments.ensures ∙ c.in_ok-reached_of.ensures) c.in_ok-entries.ensures.lists c.in_ok-entries.ensures.entries c.in_ok-number.ensures
