use Rattle.std.proofs.Common.{Err, ap}
use Rattle.gateway_serving.proofs.serving.serve.Goals as goal

pub returns-in-Err-Failed-clause-came_to : goal.returns-in-Err-Failed-clause-came_to
returns-in-Err-Failed-clause-came_to g c =
    let told = c.in-Err-Failed.ensures in
    (record { asked = told.refused.0; idle = told.refused.1; same = told.stopped }, told.cause (ap Err c.in-Err-Failed.field-0-is))
