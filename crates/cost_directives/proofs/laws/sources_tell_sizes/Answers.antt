use Rattle.cost_directives.specs.Weights.{field_in}
use Rattle.cost_directives.proofs.ToldSizes.{told}
use Rattle.cost_directives.proofs.laws.sources_tell_sizes.Goals as goal

pub returns : goal.returns
returns c w n args handed size is = told (field_in w n).size w.undeclared args handed size is
