use Rattle.std.proofs.Common.{◌≡◌, drop}
use Rattle.cost_directives.specs.Disagree.{same_names}
use Rattle.cost_directives.proofs.above.same_names.Given as goal

-- What is left answers as the whole.
abbrev pub invariant-loop-at : goal.invariant-loop-at
invariant-loop-at l = same_names (drop l.at l.names) (drop l.at l.others) ≡ same_names l.names l.others
