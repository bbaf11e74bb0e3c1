use Rattle.std.proofs.Common.{◌∙◌}
use Rattle.command_outcomes.proofs.WeighedSchemas.{weighed_held}
use Rattle.command_outcomes.proofs.checked.checked_schema.Goals as goal

pub returns-in-Ok-weighed_in-clause-held : goal.returns-in-Ok-weighed_in-clause-held
returns-in-Ok-weighed_in-clause-held c =
    weighed_held c.args.read.items c.as_str.result.now c.in-Ok-weighed_in.weighed.schema c.in-Ok-weighed_in.weighed.weights (c.as_str.ensures ∙ c.in-Ok.ensures.text.0) c.in-Ok-weighed_in.ensures.held
