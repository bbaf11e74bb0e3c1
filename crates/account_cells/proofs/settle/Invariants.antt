use Rattle.crossbeam_utils.specs.Seq.{cell_view, IsSamePass}
use Rattle.account_core.specs.Machine.{settlement, done}
use Rattle.account_cells.specs.Outcomes.{OnlyLooks}
use Rattle.account_cells.proofs.settle.Given as goal

abbrev pub ghosts-look_or_settle : goal.ghosts-look_or_settle
ghosts-look_or_settle g a = record { number = a.number; of = a.of; window = a.window; bound = a.bound; measured = a.measured }

abbrev pub ghosts-try_settle : goal.ghosts-try_settle
ghosts-try_settle g a = record { number = a.number; call = settlement a.of a.window a.bound a.measured; reply = done; found = a.found }

abbrev pub invariant-loop : goal.invariant-loop
invariant-loop g l =
    (goal.iterator-loop g).can_next l.iterator' × (goal.iterator-loop g).is_finite l.iterator' × IsSamePass l.fn.pass l.pass
    × OnlyLooks (cell_view l.fn.pass) (cell_view l.pass)
