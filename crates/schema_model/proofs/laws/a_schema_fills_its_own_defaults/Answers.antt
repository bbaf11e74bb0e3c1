use Rattle.schema_model.proofs.OwnForms.{fills}
use Rattle.schema_model.proofs.laws.a_schema_fills_its_own_defaults.Goals as goal

pub returns : goal.returns
returns c = fills
