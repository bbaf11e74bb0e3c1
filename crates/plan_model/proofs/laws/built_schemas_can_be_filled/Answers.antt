use Rattle.plan_model.proofs.Fillable.{built_filled}
use Rattle.plan_model.proofs.laws.built_schemas_can_be_filled.Goals as goal

pub returns : goal.returns
returns c = built_filled
