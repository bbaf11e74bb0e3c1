use Rattle.std.proofs.Common.{rules}
use Rattle.account_cells.proofs.Picked.{looks_picked}
use Rattle.account_cells.proofs.look_or_refuse.Goals as goal

pub load_as-requires : goal.load_as-requires
load_as-requires g c = (search rules, (search rules, (c.requires.cell, looks_picked _ _ _ _ _ _ c.requires.picked.0 c.requires.live c.requires.new)))
