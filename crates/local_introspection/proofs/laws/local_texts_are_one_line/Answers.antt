use Rattle.local_introspection.proofs.OneLines.{local_plain}
use Rattle.local_introspection.proofs.laws.local_texts_are_one_line.Goals as goal

pub returns : goal.returns
returns c = local_plain c.refusal_texts_are_one_line.ensures
