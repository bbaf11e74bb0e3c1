use Rattle.collected_fields.specs.Views.{setting_of_planning, collected_field}
use Rattle.asked_fields.specs.Asking.{coerced_in}
use Rattle.asked_fields.proofs.Steps.{answers_coerced}
use Rattle.asked_fields.proofs.lookups.arguments_of.Goals as goal

pub returns : goal.returns
returns c = c.unless_refused.ensures (coerced_in (setting_of_planning c.args.planning.now) c.args.of.number (collected_field c.args.field.now))
    (answers_coerced (setting_of_planning c.args.planning.now) c.args.of.number c.args.field.now.field.now.arguments.items c.as_slice-written.result.now c.coerce_arguments-found.result c.as_slice-written.ensures.value c.coerce_arguments-found.ensures)
