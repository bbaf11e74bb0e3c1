use Rattle.response_meter.proofs.BuiltNames.{built_differ}
use Rattle.response_meter.proofs.Named.{table_named}
use Rattle.response_meter.proofs.laws.types_of_built_schemas_differ.Goals as goal

pub returns-clause-differ : goal.returns-clause-differ
returns-clause-differ c = built_differ

pub returns-clause-named : goal.returns-clause-named
returns-clause-named c text table tree built holds = table_named table (built_differ text table.schema.now built) tree holds
