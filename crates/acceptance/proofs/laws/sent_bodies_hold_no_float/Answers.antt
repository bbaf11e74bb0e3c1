use Rattle.acceptance.proofs.SentFloats.{sent_floatless}
use Rattle.acceptance.proofs.SentBodies.{one_text}
use Rattle.acceptance.proofs.laws.sent_bodies_hold_no_float.Goals as goal

pub returns-clause-no_float : goal.returns-clause-no_float
returns-clause-no_float c = sent_floatless

pub returns-clause-one_text : goal.returns-clause-one_text
returns-clause-one_text c = one_text
