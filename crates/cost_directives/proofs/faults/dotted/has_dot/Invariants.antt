use Rattle.std.proofs.Common.{◌≡◌, drop}
use Rattle.std.specs.List.{list_any}
use Rattle.cost_directives.specs.Dotted.{is_dot}
use Rattle.cost_directives.proofs.faults.dotted.has_dot.Given as goal

-- What is left answers as the whole.
abbrev pub invariant-loop-byte : goal.invariant-loop-byte
invariant-loop-byte l = list_any is_dot (drop l.byte-index l.bytes) ≡ list_any is_dot l.bytes
