use Rattle.std.proofs.Common.{ap}
use Rattle.schema_model.specs.SchemaViews.{schema_data}
use Rattle.acceptance.specs.Requests.{request_data}
use Rattle.operation_commands.proofs.TabledPlans.{price_of_plan}
use Rattle.operation_commands.proofs.explaining.upstream_table.Goals as goal

pub returns-in-Ok-price_table-clause-table : goal.returns-in-Ok-price_table-clause-table
returns-in-Ok-price_table-clause-table c =
    let accepted = c.in-Ok.ensures.accepted in (
      c.in-Ok.accepted.plan,
      c.in-Ok.accepted.bound,
      accepted,
      price_of_plan c.bounds_of_operations.ensures.only (request_data c.args.request.now) c.in-Ok.accepted.plan c.in-Ok.accepted.bound c.requires.of_schema accepted (ap schema_data c.in-Ok.ensures.schema),
      c.in-Ok-price_table.ensures,
    )
