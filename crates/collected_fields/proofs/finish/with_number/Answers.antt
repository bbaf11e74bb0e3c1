use Rattle.std.proofs.Common.{refl}
use Rattle.collected_fields.proofs.FinishLaws.{with_next}
use Rattle.collected_fields.proofs.finish.with_number.Goals as goal

pub loop-field-preserved : goal.loop-field-preserved
loop-field-preserved c = with_next c.loop-field.below c.args.nothing c.args.fields.now c.loop-field.made.items _ c.loop-field.field-index c.field-item.result _ _ c.loop-field-test.true c.field-item.is c.in_ok-push.ensures.items refl c.loop-field.invariant
