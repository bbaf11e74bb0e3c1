use Rattle.collected_fields.specs.Views.{setting_of_planning, collected_field}
use Rattle.merged_selections.proofs.KeptCalls.{known_fine}
use Rattle.merged_selections.proofs.calls.Calls.refused.Goals as goal

pub returns-in-Some-clause-refused : goal.returns-in-Some-clause-refused
returns-in-Some-clause-refused c = λ kept. known_fine (setting_of_planning c.args.planning.now) c.args.of.number (collected_field c.args.field.now) c.args.self.now.made.items c.in-Some.field-0 kept.0 c.in-Some.ensures
