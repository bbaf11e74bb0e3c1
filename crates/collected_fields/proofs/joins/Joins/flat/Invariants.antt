use Rattle.std.proofs.Common.{flat_map, take}
use Rattle.plan_model.specs.Repeats.{LeavesOutRepeats}
use Rattle.collected_fields.specs.Lists.{sets_in_joins}
use Rattle.collected_fields.proofs.joins.Joins.flat.Given as goal

abbrev pub invariant-loop-number : goal.invariant-loop-number
invariant-loop-number l = LeavesOutRepeats (flat_map (sets_in_joins l.fn.self) (take l.number-index l.numbers)) l.adding.list.items
