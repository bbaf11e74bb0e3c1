use Rattle.schema_model.proofs.BuildLaws.{text_one_fault}
use Rattle.schema_model.proofs.laws.a_text_has_one_fault.Goals as goal

pub returns : goal.returns
returns c = text_one_fault
