use Rattle.aligned_lines.specs.Aligned.{lines_seen}
use Rattle.aligned_lines.proofs.Steps.{one_width}
use Rattle.aligned_lines.proofs.writing.widths_of.Goals as goal

pub loop-column-preserved : goal.loop-column-preserved
loop-column-preserved c =
    one_width (lines_seen c.args.lines.now) c.loop-column.widths.items _ c.loop-column.column _ c.loop-column.invariant.0 c.loop-column.invariant.1 c.widest.ensures c.in_ok-push.ensures.items
