use Rattle.input_values.proofs.FillingSteps.SomeFilling.{some_filling}
use Rattle.input_values.proofs.defaults.laws.defaults_can_be_filled.Goals as goal

pub returns : goal.returns
returns c = some_filling
