use Rattle.std.proofs.Common.{List, Bool, ap, sym, ◌∙◌, arith}
use Rattle.collected_fields.specs.Reached.{is_marked_in}
use Rattle.collected_fields.proofs.MissedTypes.{unmarked_pushed, one_marked}
use Rattle.collected_fields.proofs.reach.mark.Goals as goal

pub loop-marks-preserved : goal.loop-marks-preserved
loop-marks-preserved c = λ T. ap (λ (ms : List Bool). is_marked_in ms T) c.in_ok-push.ensures.items ∙ (unmarked_pushed c.loop-marks.marks.items T ∙ c.loop-marks.invariant T)

pub returns : goal.returns
returns c = λ T misses. let here = one_marked c.loop-marks.marks.items c.args.number T (omega (arith, c.loop-marks-test.false, c.len.ensures)) misses in (sym (c.loop-marks.invariant T) ∙ here.0, here.1)
