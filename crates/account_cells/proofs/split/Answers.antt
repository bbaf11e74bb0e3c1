use Rattle.std.proofs.Common.{rules}
use Rattle.account_cells.proofs.Splits.{splits_next}
use Rattle.account_cells.proofs.split.Goals as goal

pub split_pass-requires : goal.split_pass-requires
split_pass-requires c = (search rules, (search rules, (c.requires.cell, splits_next _ _ c.requires.first.0 c.requires.first.1)))
