use Rattle.response_model.specs.Components.{part_of}
use Rattle.cost_shares.specs.TableShares.{shares_seen}
use Rattle.cost_shares.proofs.FoundShares.{Goes}
use Rattle.cost_shares.proofs.passing.pass.Given as goal

abbrev pub invariant-loop-at : goal.invariant-loop-at
invariant-loop-at l = Goes (part_of l.part) l.of l.chosen l.objects (shares_seen l.found.items) l.at
