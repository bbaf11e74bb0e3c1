use Rattle.std.proofs.Common.{◌≡◌, ◌++◌, drop}
use Rattle.aligned_lines.specs.Aligned.{lines_seen, line_text}
use Rattle.aligned_lines.proofs.writing.push_line.Given as goal

abbrev pub invariant-loop-column : goal.invariant-loop-column
invariant-loop-column l = l.into.items ++ line_text l.left (lines_seen l.lines) l.column (drop l.column l.line.cells.items) ≡ l.fn.into.items ++ line_text l.left (lines_seen l.lines) 0 l.line.cells.items
