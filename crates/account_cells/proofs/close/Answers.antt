use Rattle.std.proofs.Common.{rules}
use Rattle.account_cells.proofs.Joins.{founder_sees_whole}
use Rattle.account_cells.proofs.close.Goals as goal

pub load_as-requires : goal.load_as-requires
load_as-requires g c = (search rules, (search rules, (c.requires.cell, founder_sees_whole _ _)))
