use Rattle.operation_commands.proofs.Wanting.{wanting_told}
use Rattle.operation_commands.proofs.explaining.told_wanting.Goals as goal

pub returns-in-Refused : goal.returns-in-Refused
returns-in-Refused c = wanting_told c.args.most c.in-Refused.line c.refused_telling.result c.in-Refused.ensures c.refused_telling.ensures
