use Rattle.std.proofs.Common.{◌≡◌, drop}
use Rattle.plan_table.specs.Tables.{setting_in}
use Rattle.cost_shares.proofs.FoundShares.{among_possible}
use Rattle.cost_shares.proofs.passing.weight_among.Given as goal

abbrev pub invariant-loop-on : goal.invariant-loop-on
invariant-loop-on l = among_possible (setting_in l.of) l.number (drop l.on-index l.possible) ≡ among_possible (setting_in l.of) l.number l.possible
