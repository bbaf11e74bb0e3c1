-- What is accepted covers its replies.
use Rattle.std.proofs.Common.{ap}
use Rattle.schema_model.specs.SchemaViews.{schema_data}
use Rattle.local_introspection.specs.PassedOn.{request_data}
use Rattle.gateway_core.proofs.PlanCovers.{covers}
use Rattle.gateway_core.proofs.promise.promised.Goals as goal

pub sent-requires-clause-covered : goal.sent-requires-clause-covered
sent-requires-clause-covered c =
    let of_schema = c.in-Ok.ensures.schema in
    covers record {
      of_operations = c.operations_planned_well.ensures.bound;
      of_plans = c.greatest_is_bound.ensures;
    } (request_data c.args.request.now) c.in-Ok.accepted.plan c.in-Ok.accepted.bound c.requires.weighed c.in-Ok.ensures.accepted (ap (λ s. schema_data s) of_schema) c.in-Ok.ensures.counted
