use Rattle.schema_model.proofs.BuildLaws.{text_no_fault}
use Rattle.schema_model.proofs.laws.a_text_with_a_schema_has_no_fault.Goals as goal

pub returns : goal.returns
returns c = text_no_fault
