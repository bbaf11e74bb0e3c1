use Rattle.response_meter.proofs.PlainAnswers.{answered_plainly}
use Rattle.response_meter.proofs.laws.answers_without_floats.Goals as goal

pub returns : goal.returns
returns c = answered_plainly c.one_text_without_floats.ensures.tree
