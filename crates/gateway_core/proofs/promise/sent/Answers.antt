-- What is sent is a text of the body.
use Rattle.std.proofs.Common.{◌∙◌, sym, ap, subst}
use Rattle.response_model.specs.WrittenJson.{IsCompact}
use Rattle.schema_model.specs.SchemaViews.{schema_data}
use Rattle.local_introspection.specs.PassedOn.{request_data, sent_body}
use Rattle.gateway_core.proofs.promise.sent.Goals as goal

pub returns-in-Ok-clause-promised : goal.returns-in-Ok-clause-promised
returns-in-Ok-clause-promised c =
    let r = request_data c.args.request.now in
    let prepared = c.requires.accepted.is_planned.prepared in
    let text = c.in-Ok.ensures.body prepared in
    let once = c.read_values_are_in_order.ensures.once r.given c.requires.given.as_read in
    record {
      is_accepted = c.requires.accepted;
      of_schema = ap (λ s. schema_data s) c.requires.schema;
      is_free = c.in-Ok.ensures.alias;
      is_sent = subst (IsCompact (sent_body r prepared c.in-Ok.sent.alias)) (sym c.from.ensures) (text.compact c.requires.given);
      is_plain = λ none. c.from.ensures ∙ text.plain (c.sent_bodies_hold_no_float.ensures.no_float r prepared c.in-Ok.sent.alias none once);
    }
