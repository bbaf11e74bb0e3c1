use Rattle.std.proofs.Common.{take}
use Rattle.collected_fields.specs.Joining.{AddsEach}
use Rattle.collected_fields.proofs.joins.Adding.add_all.Given as goal

abbrev pub invariant-loop-set : goal.invariant-loop-set
invariant-loop-set l = AddsEach (take l.set-index l.sets) l.fn.self.list.items l.self.list.items
