use Rattle.std.specs.Prelude.{true, None}
use Rattle.response_model.specs.Plan.{single}
use Rattle.response_model.proofs.Filling.{same_filled}
use Rattle.response_model.proofs.laws.one_filled.Goals as goal

pub returns : goal.returns
returns c part plan t s = same_filled part (single true) None plan t s
