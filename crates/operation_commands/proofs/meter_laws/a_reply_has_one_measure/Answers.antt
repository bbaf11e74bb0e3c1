-- The texts are read in one way, and so is the reply.
use Rattle.operation_commands.proofs.OneMeasure.{alike_measure, one_measure, one_fault, measured_or_faulty}
use Rattle.operation_commands.proofs.meter_laws.a_reply_has_one_measure.Goals as goal

pub returns-clause-cost : goal.returns-clause-cost
returns-clause-cost c = alike_measure record {
  reading = record {
    one_schema = c.a_schema_file_has_one_check.ensures.one_schema;
    trees = c.a_text_is_one_document.ensures.texts;
    offsets = c.a_text_is_one_document.ensures.places;
  };
  one_tree = c.alike_requests_are_answered_alike.ensures.one_plan;
  types_differ = λ bytes schema held. c.types_of_built_schemas_differ.ensures.differ held.0 schema held.2;
  named = c.named_tables.ensures;
  one_reply = c.one_reply.ensures;
  plain = c.answers_without_floats.ensures;
  passes = c.fault_or_reading.ensures.passes;
}

pub returns-clause-measure : goal.returns-clause-measure
returns-clause-measure c = one_measure record {
  reading = record {
    one_schema = c.a_schema_file_has_one_check.ensures.one_schema;
    trees = c.a_text_is_one_document.ensures.texts;
    offsets = c.a_text_is_one_document.ensures.places;
  };
  one_tree = c.alike_requests_are_answered_alike.ensures.one_plan;
  types_differ = λ bytes schema held. c.types_of_built_schemas_differ.ensures.differ held.0 schema held.2;
  named = c.named_tables.ensures;
  one_reply = c.one_reply.ensures;
  plain = c.answers_without_floats.ensures;
  passes = c.fault_or_reading.ensures.passes;
}

pub returns-clause-fault : goal.returns-clause-fault
returns-clause-fault c = one_fault record {
  reading = record {
    one_schema = c.a_schema_file_has_one_check.ensures.one_schema;
    trees = c.a_text_is_one_document.ensures.texts;
    offsets = c.a_text_is_one_document.ensures.places;
  };
  one_tree = c.alike_requests_are_answered_alike.ensures.one_plan;
  types_differ = λ bytes schema held. c.types_of_built_schemas_differ.ensures.differ held.0 schema held.2;
  named = c.named_tables.ensures;
  one_reply = c.one_reply.ensures;
  plain = c.answers_without_floats.ensures;
  passes = c.fault_or_reading.ensures.passes;
}

pub returns-clause-not_both : goal.returns-clause-not_both
returns-clause-not_both c = measured_or_faulty record {
  reading = record {
    one_schema = c.a_schema_file_has_one_check.ensures.one_schema;
    trees = c.a_text_is_one_document.ensures.texts;
    offsets = c.a_text_is_one_document.ensures.places;
  };
  one_tree = c.alike_requests_are_answered_alike.ensures.one_plan;
  types_differ = λ bytes schema held. c.types_of_built_schemas_differ.ensures.differ held.0 schema held.2;
  named = c.named_tables.ensures;
  one_reply = c.one_reply.ensures;
  plain = c.answers_without_floats.ensures;
  passes = c.fault_or_reading.ensures.passes;
}
