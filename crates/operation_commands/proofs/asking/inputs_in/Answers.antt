use Rattle.serde_json.specs.View.{view}
use Rattle.operation_commands.proofs.AskedRefusals.{schema_held, floats_held, no_schema, not_given, not_read, refused_for}
use Rattle.operation_commands.proofs.asking.inputs_in.Goals as goal

pub returns-in-Err-clause-no_inputs : goal.returns-in-Err-clause-no_inputs
returns-in-Err-clause-no_inputs c =
    no_schema c.args.asked.now c.args.texts.now c.as_str.result.now c.in-Err.fault c.as_str.ensures c.in-Err.ensures.refused

pub returns-in-Err-clause-refused : goal.returns-in-Err-clause-refused
returns-in-Err-clause-refused c =
    refused_for c.args.asked.now c.args.texts.now c.in-Err.fault
    (no_schema c.args.asked.now c.args.texts.now c.as_str.result.now c.in-Err.fault c.as_str.ensures c.in-Err.ensures.refused)

pub returns-in-Err-given_in-clause-no_inputs : goal.returns-in-Err-given_in-clause-no_inputs
returns-in-Err-given_in-clause-no_inputs c =
    not_given c.args.asked.now c.args.texts.now c.in-Err-given_in.fault
    (schema_held c.args.asked.now c.args.texts.now c.as_str.result.now c.in-Ok.weighed.schema c.in-Ok.weighed.weights c.as_str.ensures c.in-Ok.ensures.held)
    c.in-Err-given_in.ensures.refused

pub returns-in-Err-given_in-clause-refused : goal.returns-in-Err-given_in-clause-refused
returns-in-Err-given_in-clause-refused c =
    refused_for c.args.asked.now c.args.texts.now c.in-Err-given_in.fault
    (not_given c.args.asked.now c.args.texts.now c.in-Err-given_in.fault
    (schema_held c.args.asked.now c.args.texts.now c.as_str.result.now c.in-Ok.weighed.schema c.in-Ok.weighed.weights c.as_str.ensures c.in-Ok.ensures.held)
    c.in-Err-given_in.ensures.refused)

pub returns-in-Err-document_in-clause-no_inputs : goal.returns-in-Err-document_in-clause-no_inputs
returns-in-Err-document_in-clause-no_inputs c =
    not_read c.args.asked.now c.args.texts.now c.has_floats.result c.as_str-2.result.now c.in-Err-document_in.fault
    (floats_held c.args.asked.now c.args.texts.now c.as_str.result.now c.in-Ok.weighed.schema c.in-Ok.weighed.weights c.has_floats.result c.as_str.ensures c.in-Ok.ensures.held c.has_floats.ensures)
    (view c.in-Ok-given_in.given, c.in-Ok-given_in.ensures.given) c.as_str-2.ensures c.in-Err-document_in.ensures.refused

pub returns-in-Err-document_in-clause-refused : goal.returns-in-Err-document_in-clause-refused
returns-in-Err-document_in-clause-refused c =
    refused_for c.args.asked.now c.args.texts.now c.in-Err-document_in.fault
    (not_read c.args.asked.now c.args.texts.now c.has_floats.result c.as_str-2.result.now c.in-Err-document_in.fault
    (floats_held c.args.asked.now c.args.texts.now c.as_str.result.now c.in-Ok.weighed.schema c.in-Ok.weighed.weights c.has_floats.result c.as_str.ensures c.in-Ok.ensures.held c.has_floats.ensures)
    (view c.in-Ok-given_in.given, c.in-Ok-given_in.ensures.given) c.as_str-2.ensures c.in-Err-document_in.ensures.refused)
