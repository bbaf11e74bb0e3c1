use Rattle.acceptance.proofs.OneLines.{refusal_plain}
use Rattle.acceptance.proofs.laws.refusal_texts_are_one_line.Goals as goal

pub returns : goal.returns
returns c = refusal_plain
