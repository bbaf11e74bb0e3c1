use Rattle.std.proofs.Common.{◌≡◌, length}
use Rattle.aligned_lines.specs.Aligned.{lines_seen, AreWidths}
use Rattle.aligned_lines.proofs.writing.widths_of.Given as goal

abbrev pub invariant-loop-column : goal.invariant-loop-column
invariant-loop-column l = AreWidths (lines_seen l.lines) l.widths.items × (length l.widths.items ≡ l.column)
