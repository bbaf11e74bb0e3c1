use Rattle.schema_model.proofs.BuildLaws.{text_either, text_not_both, text_built}
use Rattle.schema_model.proofs.laws.a_text_has_a_schema_or_a_fault.Goals as goal

pub returns-clause-either : goal.returns-clause-either
returns-clause-either c = text_either

pub returns-clause-not_both : goal.returns-clause-not_both
returns-clause-not_both c = text_not_both

pub returns-clause-schemas : goal.returns-clause-schemas
returns-clause-schemas c = text_built
