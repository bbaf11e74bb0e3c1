use Rattle.std.proofs.Common.{◌≤◌}
use Rattle.gateway_workers.proofs.Lists.{each_place}
use Rattle.gateway_workers.proofs.AllTours.{served_whole}
use Rattle.gateway_workers.proofs.laws.doors_that_do_not_fail_are_served_whole.Goals as goal

pub returns : goal.returns
returns g c = λ t s most doors back tours are whole. served_whole t s most doors back tours are (each_place (λ d. most ≤ t.to_come d) doors whole.enough) whole.calm
