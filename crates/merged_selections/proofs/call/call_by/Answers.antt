use Rattle.collected_fields.specs.Views.{setting_of_planning}
use Rattle.merged_selections.proofs.MadeCalls.{call_is}
use Rattle.merged_selections.proofs.call.call_by.Goals as goal

pub returns : goal.returns
returns c = λ alike costs. let own = call_is (setting_of_planning c.args.planning.now) c.args.of c.args.field.now c.args.sizes c.args.cost c.hands.result c.hands.ensures alike costs in (own, own)
