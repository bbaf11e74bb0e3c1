use Rattle.stripped_responses.proofs.Filling.{value_filled}
use Rattle.stripped_responses.proofs.laws.each_response_is_a_stripped_one.Goals as goal

pub returns : goal.returns
returns c alias e form size place p q s sent fits kept = (let filled = value_filled alias e form size place p q s sent.has_none sent.is_rewritten fits in (filled.tree, filled.fits, filled.keeps kept, filled.strips))
