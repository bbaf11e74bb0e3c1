use Rattle.cost_directives.proofs.FittingSizes.{fit_in_schema}
use Rattle.cost_directives.proofs.laws.sizes_fit_their_fields.Goals as goal

pub returns : goal.returns
returns c = fit_in_schema
