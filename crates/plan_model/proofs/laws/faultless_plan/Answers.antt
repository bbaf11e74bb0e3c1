use Rattle.plan_model.proofs.FaultlessPlans.{faultless_is_planned}
use Rattle.plan_model.proofs.SoundPlans.{faultless_is_sound}
use Rattle.plan_model.proofs.laws.faultless_plan.Goals as goal

pub returns-clause-is_plan : goal.returns-clause-is_plan
returns-clause-is_plan c = faultless_is_planned

pub returns-clause-sound : goal.returns-clause-sound
returns-clause-sound c = λ e levels place p sound. faultless_is_sound e sound levels place p
