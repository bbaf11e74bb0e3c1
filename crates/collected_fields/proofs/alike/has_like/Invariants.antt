use Rattle.std.proofs.Common.{◌-◌, length}
use Rattle.collected_fields.proofs.alike.has_like.Given as goal

abbrev pub decreases-loop-at : goal.decreases-loop-at
decreases-loop-at l = length l.fields - l.at
