use Rattle.collected_fields.proofs.ReachingLaws.{none_found}
use Rattle.collected_fields.proofs.reaching.AllReaches.new.Goals as goal

pub returns : goal.returns
returns c = λ t j. none_found t j _ c.new-sets.ensures c.new-lists.ensures (c.new-kinds.ensures t)
