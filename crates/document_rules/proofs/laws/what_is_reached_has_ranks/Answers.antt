use Rattle.document_rules.proofs.CycleSteps.{kept_has_ranks}
use Rattle.document_rules.proofs.laws.what_is_reached_has_ranks.Goals as goal

pub returns : goal.returns
returns c = kept_has_ranks
