use Rattle.std.proofs.Common.{◌≡◌, drop}
use Rattle.collected_fields.specs.Walks.{walk_data, sets_in}
use Rattle.collected_fields.proofs.walk.walk_sets.Given as goal

abbrev pub invariant-loop-set : goal.invariant-loop-set
invariant-loop-set l = sets_in l.tables l.known l.reaches l.of.number l.depth (drop l.set-index l.sets) (walk_data l.walk) ≡ sets_in l.tables l.known l.reaches l.of.number l.depth l.sets (walk_data l.fn.walk)
