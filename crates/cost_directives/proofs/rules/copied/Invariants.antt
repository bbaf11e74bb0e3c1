use Rattle.std.proofs.Common.{◌≡◌, ◌++◌, drop}
use Rattle.cost_directives.proofs.rules.copied.Given as goal

-- Those so far, and then those of what is left.
abbrev pub invariant-loop-name : goal.invariant-loop-name
invariant-loop-name l = l.copies.items ++ drop l.name-index l.names ≡ l.names
