use Rattle.std.proofs.Common.{◌≡◌, max, drop}
use Rattle.aligned_lines.specs.Aligned.{lines_seen, widest}
use Rattle.aligned_lines.proofs.writing.widest.Given as goal

-- with the longest of what is left it is the longest
abbrev pub invariant-loop-line : goal.invariant-loop-line
invariant-loop-line l = max (widest l.column (lines_seen (drop l.line-index l.lines))) l.most ≡ widest l.column (lines_seen l.lines)
