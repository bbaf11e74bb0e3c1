use Rattle.variable_coercion.proofs.ValuesByName.{same_values}
use Rattle.variable_coercion.proofs.laws.what_arguments_see.Goals as goal

pub returns : goal.returns
returns c = λ variables. same_values variables.values.items.items
