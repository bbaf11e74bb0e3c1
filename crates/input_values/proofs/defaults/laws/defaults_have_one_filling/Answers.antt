use Rattle.input_values.proofs.FillingSteps.OneFilling.{one_filling}
use Rattle.input_values.proofs.defaults.laws.defaults_have_one_filling.Goals as goal

pub returns : goal.returns
returns c = one_filling
