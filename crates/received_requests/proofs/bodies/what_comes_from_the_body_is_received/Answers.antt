use Rattle.std.proofs.Common.{◌∙◌, ap, map, subst}
use Rattle.document_reader.specs.DocumentAnswers.{HasDocument}
use Rattle.document_reader.specs.Trees.{definition_tree}
use Rattle.schema_model.specs.SchemaData.{has_floats}
use Rattle.request_bodies.specs.Bodies.{RequestData as BodyData}
use Rattle.received_requests.proofs.bodies.what_comes_from_the_body_is_received.Goals as goal

pub returns : goal.returns
returns c r p alias text body given free client sent q from =
    let same = c.what_a_reader_of_the_body_gets.ensures.only r p alias body from.asked given sent from.is_request in
    c.what_is_read_is_received.ensures r p alias text q free client record {
      schema = from.schema;
      weights = from.weights;
      document = subst (λ (asked : BodyData). HasDocument (has_floats r.schema) asked.query (map definition_tree q.document)) same from.document;
      operation_name = from.name ∙ ap (λ (asked : BodyData). asked.name) same;
      variables = from.given ∙ ap (λ (asked : BodyData). asked.variables) same;
    }
