use Rattle.std.proofs.Common.{◌≡◌, max, drop}
use Rattle.aligned_lines.specs.Aligned.{lines_seen, most_cells}
use Rattle.aligned_lines.proofs.writing.most_cells.Given as goal

-- with the most of what is left it is the most
abbrev pub invariant-loop-line : goal.invariant-loop-line
invariant-loop-line l = max (most_cells (lines_seen (drop l.line-index l.lines))) l.most ≡ most_cells (lines_seen l.lines)
