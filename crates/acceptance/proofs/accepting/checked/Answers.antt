use Rattle.schema_model.specs.SchemaViews.{schema_data}
use Rattle.document_rules.specs.Checking.{IsCheckOf}
use Rattle.acceptance.specs.Requests.{request_data}
use Rattle.acceptance.proofs.Stages.{checked_for, rule_refused}
use Rattle.acceptance.proofs.accepting.checked.Goals as goal

pub returns-in-Ok-check-clause-of : goal.returns-in-Ok-check-clause-of
returns-in-Ok-check-clause-of c = checked_for (request_data c.args.request.now) c.in-Ok.place c.in-Ok-check.checked c.in-Ok.ensures.picked c.in-Ok.ensures.there c.in-Ok-check.ensures.answer

pub returns-in-Err-check-clause-refused : goal.returns-in-Err-check-clause-refused
returns-in-Err-check-clause-refused c =
    rule_refused (request_data c.args.request.now) c.in-Ok.place (IsCheckOf (schema_data c.args.request.now.schema.now) c.args.request.now.document.now.definitions.items) c.in-Err-check.fault c.rule_fault.result
    c.in-Ok.ensures.picked c.in-Ok.ensures.there c.in-Err-check.ensures.answer c.rule_fault.ensures
