use Rattle.std.proofs.Common.{◌≡◌, drop, map}
use Rattle.account_core.specs.Machine.{open_grant}
use Rattle.account_journal.specs.Recovery.{grant_view}
use Rattle.account_journal.proofs.reading.find_open.Given as goal

abbrev pub invariant-loop-open : goal.invariant-loop-open
invariant-loop-open l = open_grant l.client l.slot (map grant_view (drop l.open-index l.opens)) ≡ open_grant l.client l.slot (map grant_view l.opens)
