use Rattle.std.proofs.Common.{rules}
use Rattle.account_cells.proofs.Splits.{starts_blank}
use Rattle.account_cells.proofs.open.Goals as goal

pub ruled-requires : goal.ruled-requires
ruled-requires c = (search rules, (search rules, starts_blank))
