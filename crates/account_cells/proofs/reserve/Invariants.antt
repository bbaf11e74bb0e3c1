use Rattle.crossbeam_utils.specs.Seq.{cell_view, IsSamePass}
use Rattle.account_core.specs.Machine.{reservation, granted}
use Rattle.account_cells.specs.Outcomes.{OnlyLooks}
use Rattle.account_cells.proofs.reserve.Given as goal

abbrev pub ghosts-look_or_refuse : goal.ghosts-look_or_refuse
ghosts-look_or_refuse g a = record { number = a.number; window = a.window; bound = a.bound }

abbrev pub ghosts-try_grant : goal.ghosts-try_grant
ghosts-try_grant g a = record { number = a.number; call = reservation a.window a.bound; reply = granted a.at; found = a.found }

abbrev pub invariant-loop : goal.invariant-loop
invariant-loop g l =
    (goal.iterator-loop g).can_next l.iterator' × (goal.iterator-loop g).is_finite l.iterator' × IsSamePass l.fn.pass l.pass
    × OnlyLooks (cell_view l.fn.pass) (cell_view l.pass)
