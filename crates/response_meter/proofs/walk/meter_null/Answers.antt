-- Null is one text.
use Rattle.std.proofs.Common.{codes, None, refl, ap}
use Rattle.response_meter.specs.declared.fault.Why.TheVariants.{NullHere}
use Rattle.response_meter.specs.Faults.{tested}
use Rattle.response_meter.proofs.walk.meter_null.Goals as goal

pub returns : goal.returns
returns c = (ap (λ b. tested b NullHere None) c.if-not-nullable.false, refl, refl, (codes "null", refl, c.in_ok-push_str.ensures.bytes))
