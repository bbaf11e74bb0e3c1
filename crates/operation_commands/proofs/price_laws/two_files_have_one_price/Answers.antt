-- The texts are read in one way.
use Rattle.operation_commands.proofs.OnePrice.{one_price, one_plan}
use Rattle.operation_commands.proofs.price_laws.two_files_have_one_price.Goals as goal

pub returns-clause-price : goal.returns-clause-price
returns-clause-price c = one_price record {
  one_schema = c.a_schema_file_has_one_check.ensures.one_schema;
  trees = c.a_text_is_one_document.ensures.texts;
  offsets = c.a_text_is_one_document.ensures.places;
} c.alike_requests_have_one_verdict.ensures.one_bound

pub returns-clause-plan : goal.returns-clause-plan
returns-clause-plan c = one_plan record {
  one_schema = c.a_schema_file_has_one_check.ensures.one_schema;
  trees = c.a_text_is_one_document.ensures.texts;
  offsets = c.a_text_is_one_document.ensures.places;
} c.alike_requests_are_answered_alike.ensures.one_plan
