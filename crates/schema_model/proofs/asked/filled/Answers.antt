use Rattle.std.proofs.Common.{map}
use Rattle.schema_model.specs.DraftViews.{type_view}
use Rattle.schema_model.proofs.AskedSteps.{filled_result}
use Rattle.schema_model.proofs.asked.filled.Goals as goal

pub returns : goal.returns
returns c = filled_result c.fill.result c.in_ok-types.types.items (map type_view c.args.drafts.now) c.in_ok-types.ensures c.fill.ensures
