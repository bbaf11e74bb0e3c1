use Rattle.schema_model.proofs.BuildLaws.{text_one_schema}
use Rattle.schema_model.proofs.laws.a_text_has_one_schema.Goals as goal

pub returns : goal.returns
returns c = text_one_schema
