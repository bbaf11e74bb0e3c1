use Rattle.std.proofs.Common.{rules}
use Rattle.account_cells.proofs.Picked.{settles_late_picked}
use Rattle.account_cells.proofs.look_or_settle.Goals as goal

pub load_as-requires : goal.load_as-requires
load_as-requires g c =
    let p = c.requires.picked in (
      search rules,
      (
        search rules,
        (c.requires.cell, settles_late_picked _ _ _ _ _ _ _ _ _ _ _ _ p.0 p.1 p.2 p.3 p.4 c.requires.live c.requires.new c.requires.owes c.requires.measured),
      ),
    )
