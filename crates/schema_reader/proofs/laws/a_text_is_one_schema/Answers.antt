use Rattle.schema_reader.proofs.OneSchema.{one_schema, one_schema_of}
use Rattle.schema_reader.proofs.laws.a_text_is_one_schema.Goals as goal

pub returns-clause-symbols : goal.returns-clause-symbols
returns-clause-symbols c = one_schema

pub returns-clause-texts : goal.returns-clause-texts
returns-clause-texts c = one_schema_of
