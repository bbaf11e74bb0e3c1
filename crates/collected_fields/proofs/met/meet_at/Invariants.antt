use Rattle.std.proofs.Common.{◌+◌, ◌-◌, length}
use Rattle.collected_fields.proofs.met.meet_at.Given as goal

abbrev pub decreases-loop-row : goal.decreases-loop-row
decreases-loop-row l = l.at + 1 - length l.row.items
