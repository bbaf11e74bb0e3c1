use Rattle.collected_fields.proofs.MissedTypes.{unmarked_so_far}
use Rattle.collected_fields.proofs.reach.mark_all.Goals as goal

pub returns : goal.returns
returns c = λ T misses. let before = c.loop-at.invariant T misses in (before.0, unmarked_so_far c.args.others.now c.loop-at.at T c.loop-at-test.false before.1)
