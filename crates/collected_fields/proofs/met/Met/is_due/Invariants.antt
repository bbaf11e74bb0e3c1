use Rattle.std.proofs.Common.{◌+◌, ◌-◌, length}
use Rattle.collected_fields.proofs.met.Met.is_due.Given as goal

abbrev pub decreases-met : goal.decreases-met
decreases-met l = l.number + 1 - length l.self.times.items
