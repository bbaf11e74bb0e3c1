use Rattle.std.proofs.Common.{◌≡◌, drop}
use Rattle.cost_directives.specs.Dotted.{any_dotted}
use Rattle.cost_directives.proofs.faults.dotted.any_dotted.Given as goal

-- What is left answers as the whole.
abbrev pub invariant-loop-name : goal.invariant-loop-name
invariant-loop-name l = any_dotted (drop l.name-index l.names) ≡ any_dotted l.names
