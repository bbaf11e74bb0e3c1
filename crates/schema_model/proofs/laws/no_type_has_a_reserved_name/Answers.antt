use Rattle.schema_model.proofs.PlainNames.{no_reserved_type}
use Rattle.schema_model.proofs.laws.no_type_has_a_reserved_name.Goals as goal

pub returns : goal.returns
returns c = no_reserved_type
