-- The texts are read in one way.
use Rattle.operation_commands.proofs.OneMeasure.{one_sent, alike_sent}
use Rattle.operation_commands.proofs.meter_laws.one_text_is_sent.Goals as goal

pub returns-clause-one_text : goal.returns-clause-one_text
returns-clause-one_text c = one_sent record {
  reply = record {
    reading = record {
      one_schema = c.a_schema_file_has_one_check.ensures.one_schema;
      trees = c.a_text_is_one_document.ensures.texts;
      offsets = c.a_text_is_one_document.ensures.places;
    };
    one_tree = c.alike_requests_are_answered_alike.ensures.one_plan;
    types_differ = λ bytes schema held. c.types_of_built_schemas_differ.ensures.differ held.0 schema held.2;
    named = c.named_tables.ensures;
    one_reply = c.one_reply.ensures;
    plain = c.answers_without_floats.ensures;
    passes = c.fault_or_reading.ensures.passes;
  };
  one_body = c.alike_requests_are_answered_alike.ensures.one_body;
  once = λ text json is. c.read_values_are_in_order.ensures.once json (c.read_values_are_in_order.ensures.whole text json is);
  no_float = c.sent_bodies_hold_no_float.ensures.no_float;
  read = c.sent_texts_are_read_alike.ensures.read;
}

pub returns-clause-alike : goal.returns-clause-alike
returns-clause-alike c = alike_sent record {
  reply = record {
    reading = record {
      one_schema = c.a_schema_file_has_one_check.ensures.one_schema;
      trees = c.a_text_is_one_document.ensures.texts;
      offsets = c.a_text_is_one_document.ensures.places;
    };
    one_tree = c.alike_requests_are_answered_alike.ensures.one_plan;
    types_differ = λ bytes schema held. c.types_of_built_schemas_differ.ensures.differ held.0 schema held.2;
    named = c.named_tables.ensures;
    one_reply = c.one_reply.ensures;
    plain = c.answers_without_floats.ensures;
    passes = c.fault_or_reading.ensures.passes;
  };
  one_body = c.alike_requests_are_answered_alike.ensures.one_body;
  once = λ text json is. c.read_values_are_in_order.ensures.once json (c.read_values_are_in_order.ensures.whole text json is);
  no_float = c.sent_bodies_hold_no_float.ensures.no_float;
  read = c.sent_texts_are_read_alike.ensures.read;
}
