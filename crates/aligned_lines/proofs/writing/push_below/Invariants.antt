use Rattle.std.proofs.Common.{◌≡◌, ◌++◌, drop}
use Rattle.aligned_lines.specs.Aligned.{lines_seen, lines_below}
use Rattle.aligned_lines.proofs.writing.push_below.Given as goal

abbrev pub invariant-loop-line : goal.invariant-loop-line
invariant-loop-line l = l.into.items ++ lines_below l.left (lines_seen l.lines) (lines_seen (drop l.line-index l.below)) ≡ l.fn.into.items ++ lines_below l.left (lines_seen l.lines) (lines_seen l.below)
