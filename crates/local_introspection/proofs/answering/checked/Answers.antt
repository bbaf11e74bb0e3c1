use Rattle.schema_model.specs.SchemaViews.{schema_data}
use Rattle.document_rules.specs.Checking.{IsCheckOf}
use Rattle.local_introspection.specs.LocalStages.{ask_data}
use Rattle.local_introspection.proofs.Stages.{stands_there, checked_for, rule_refused}
use Rattle.local_introspection.proofs.answering.checked.Goals as goal

pub check-requires : goal.check-requires
check-requires c = stands_there (ask_data c.args.of.now) c.requires.local

pub returns-in-Ok-clause-of : goal.returns-in-Ok-clause-of
returns-in-Ok-clause-of c = checked_for (ask_data c.args.of.now) c.in-Ok.checked c.requires.local c.in-Ok.ensures.answer

pub returns-in-Err-clause-refused : goal.returns-in-Err-clause-refused
returns-in-Err-clause-refused c =
    rule_refused (ask_data c.args.of.now) (IsCheckOf (schema_data c.args.of.now.facts.now.meta.schema) c.args.of.now.document.now.definitions.items) c.in-Err.fault c.rule_fault.result c.requires.local c.in-Err.ensures.answer c.rule_fault.ensures
