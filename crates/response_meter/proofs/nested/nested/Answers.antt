use Rattle.response_meter.proofs.Nesting.{types_found}
use Rattle.response_meter.proofs.nested.nested.Goals as goal

pub returns : goal.returns
returns c = types_found c.nest_types.result c.node_rows.result.now c.args.of.now.rows.items c.nest_types.new.rows.left.now c.node_rows.ensures c.nest_types.ensures.nested
