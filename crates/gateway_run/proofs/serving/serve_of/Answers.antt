-- The texts hold rules, and it was served by them.
use Rattle.std.proofs.Common.{inr}
use Rattle.gateway_run.proofs.ServedRules.{has_weights}
use Rattle.gateway_run.proofs.serving.serve_of.Goals as goal

pub serve_asked-requires-clause-weighed : goal.serve_asked-requires-clause-weighed
serve_asked-requires-clause-weighed g c κs within =
    let held = c.in-Ok.ensures.held.are_rules.is_schema in
    has_weights c.args.texts.now.rules.schema c.args.asked.now.undeclared c.in-Ok.inputs.rules.weighed.schema c.in-Ok.inputs.rules.weighed.weights held
    (c.built_schemas_can_be_filled.ensures held.0.0 c.in-Ok.inputs.rules.weighed.schema held.0.2)

pub returns-in-Ok : goal.returns-in-Ok
returns-in-Ok g c = inr (inr (c.in-Ok.inputs, c.in-Ok.ensures.held, c.serve_asked.ensures))
