-- The body is the request that was read, and its query the document.
use Rattle.serde_json.specs.View.{view}
use Rattle.request_bodies.specs.Bodies.{request_data}
use Rattle.gateway_core.specs.Gates.{rules_of}
use Rattle.gateway_core.proofs.ExaminedBodies.{given_by, unread_is_unfit, found_of_body, unfit_of_body}
use Rattle.gateway_core.proofs.examining.found_in.Goals as goal

pub returns-in-Err-clause-unfit : goal.returns-in-Err-clause-unfit
returns-in-Err-clause-unfit c = c.in-Err.ensures.unfit

pub returns-in-Err-document_in-clause-unfit : goal.returns-in-Err-document_in-clause-unfit
returns-in-Err-document_in-clause-unfit c =
    unread_is_unfit (rules_of c.args.gate.now) c.args.body.now (request_data c.in-Ok.asked) c.in-Ok.ensures.asked c.in-Err-document_in.denial c.in-Err-document_in.ensures.refused

pub found_for-requires : goal.found_for-requires
found_for-requires c = record {
  given = given_by c.args.body.now (view c.in-Ok.asked.variables) (c.read_values_are_in_order.ensures.whole c.args.body.now) c.read_values_are_in_order.ensures.member
      (c.read_values_are_in_order.ensures.within c.args.body.now)
      (c.variables_are_the_clients.ensures.source (rules_of c.args.gate.now).trusted c.args.body.now (request_data c.in-Ok.asked) c.in-Ok.ensures.asked);
}

pub returns-clause-found : goal.returns-clause-found
returns-clause-found c =
    found_of_body (rules_of c.args.gate.now) c.args.body.now (request_data c.in-Ok.asked) c.in-Ok.ensures.asked c.in-Ok-document_in.document c.in-Ok-document_in.ensures.document c.found_for.result c.found_for.ensures.found

pub returns-clause-unfit : goal.returns-clause-unfit
returns-clause-unfit c =
    unfit_of_body (rules_of c.args.gate.now) c.args.body.now (request_data c.in-Ok.asked) c.in-Ok.ensures.asked c.in-Ok-document_in.document c.in-Ok-document_in.ensures.document c.found_for.result c.found_for.ensures.unfit
