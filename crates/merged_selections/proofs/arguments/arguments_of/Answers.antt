use Rattle.collected_fields.specs.Views.{setting_of_planning}
use Rattle.merged_selections.proofs.AlikeArguments.{answers_coerced}
use Rattle.merged_selections.proofs.arguments.arguments_of.Goals as goal

pub returns : goal.returns
returns c = answers_coerced (setting_of_planning c.args.planning.now) c.args.of.number c.args.field.now.field.now.arguments.items c.as_slice-written.result.now c.coerce_arguments.result c.as_slice-written.ensures.value c.coerce_arguments.ensures
