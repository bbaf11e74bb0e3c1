use Rattle.std.proofs.Common.{rules, ◌∙◌, sym, ap}
use Rattle.aligned_lines.specs.Aligned.{lines_seen, cell_text}
use Rattle.aligned_lines.proofs.Steps.{cell_written, line_written}
use Rattle.aligned_lines.proofs.writing.push_line.Goals as goal

pub loop-column-preserved : goal.loop-column-preserved
loop-column-preserved c = cell_written c.args.left.now (lines_seen c.args.lines.now) c.args.line.now.cells.items c.loop-column.column c.as_bytes.result.now c.loop-column.into.items c.push_cell.new.into.items _ (search rules) (search rules) (search rules) c.loop-column.invariant

pub returns : goal.returns
returns c = line_written c.args.left.now (lines_seen c.args.lines.now) c.args.line.now.cells.items c.loop-column.column c.loop-column.into.items _ (search rules) c.loop-column.invariant
