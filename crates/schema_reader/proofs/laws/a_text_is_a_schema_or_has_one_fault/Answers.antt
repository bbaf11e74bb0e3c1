use Rattle.schema_reader.proofs.OneSchemaFault.{schema_or_fault, no_schema_fault, one_schema_fault}
use Rattle.schema_reader.proofs.laws.a_text_is_a_schema_or_has_one_fault.Goals as goal

pub returns-clause-either : goal.returns-clause-either
returns-clause-either c = schema_or_fault

pub returns-clause-not_both : goal.returns-clause-not_both
returns-clause-not_both c = no_schema_fault

pub returns-clause-one_fault : goal.returns-clause-one_fault
returns-clause-one_fault c = one_schema_fault
