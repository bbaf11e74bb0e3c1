use Rattle.std.proofs.Common.{rules}
use Rattle.account_cells.proofs.Splits.{sets_limit}
use Rattle.account_cells.proofs.set_limit.Goals as goal

pub split_pass-requires : goal.split_pass-requires
split_pass-requires g c = (search rules, (search rules, (c.requires.cell, sets_limit _ _ _ c.requires.fresh)))
