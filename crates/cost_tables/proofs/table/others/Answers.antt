use Rattle.cost_tables.proofs.Written.{others_left}
use Rattle.cost_tables.proofs.table.others.Goals as goal

pub returns : goal.returns
returns c = others_left c.args.shares.now c.min.result c.min.ensures
