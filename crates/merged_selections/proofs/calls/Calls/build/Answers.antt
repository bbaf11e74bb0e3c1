use Rattle.collected_fields.specs.Views.{setting_of_planning}
use Rattle.merged_selections.proofs.KeptCalls.{built_gives}
use Rattle.merged_selections.proofs.calls.Calls.build.Goals as goal

pub returns : goal.returns
returns c = λ kept. built_gives (setting_of_planning c.args.planning.now) c.args.self.now.made.items c.args.at c.index-call.result.now c.arguments_of.result c.requires.there c.index-call.ensures kept.0 c.arguments_of.ensures
