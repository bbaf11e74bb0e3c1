use Rattle.std.proofs.Common.{◌≡◌, ◌++◌, false, map, string_bytes, ap, ◌∙◌, subst}
use Rattle.serde_json.specs.View.{view}
use Rattle.serde_json.specs.Data.{string, object}
use Rattle.serde_json.specs.Written.{has_float, compact_text}
use Rattle.document_reader.specs.Trees.{maybe_identifier, variable_tree}
use Rattle.typename_rewrite.specs.ForwardedBodies.{AppendsObject, sent_variables, body_data}
use Rattle.typename_rewrite.proofs.BodySteps.{body_put, variables_floatless}
use Rattle.typename_rewrite.proofs.BodyTexts.{body_is_written}
use Rattle.typename_rewrite.proofs.body.forwarded_body.Goals as goal

pub returns-clause-written : goal.returns-clause-written
unfolding body_data
returns-clause-written c =
    let name = maybe_identifier c.args.operation.now.name in
    let given = view c.args.given.now in
    let sent = sent_variables (map variable_tree c.args.operation.now.variables.items) given in
    let listed = ap (λ l. sent_variables (map variable_tree l) given) c.as_slice.ensures.value in
    body_is_written name c.args.rewritten.now.text sent (string_bytes c.in_ok-body.body) (string_bytes c.write_name.new.into) (string_bytes c.write_key.new.into) (string_bytes c.write_string.new.into) (string_bytes c.push_str.new.self)
    (string_bytes c.write_key-2.new.into) (string_bytes c.write_variables.new.into) (string_bytes c.push_str-2.new.self)
    c.in_ok-body.ensures.ok c.in_ok-write_name.ensures c.in_ok-write_key.ensures (c.in_ok-write_string.ensures ∙ ap (λ text. string_bytes c.write_key.new.into ++ compact_text (string text)) c.as_str.ensures) c.in_ok-push_str.ensures.bytes
    c.in_ok-write_key-2.ensures (subst (AppendsObject (string_bytes c.write_key-2.new.into) (string_bytes c.write_variables.new.into)) listed c.in_ok-write_variables.ensures) c.in_ok-push_str-2.ensures.bytes

pub returns-clause-text : goal.returns-clause-text
unfolding body_data
returns-clause-text c =
    let name = maybe_identifier c.args.operation.now.name in
    let given = view c.args.given.now in
    let sent = sent_variables (map variable_tree c.args.operation.now.variables.items) given in
    let listed = ap (λ l. sent_variables (map variable_tree l) given) c.as_slice.ensures.value in
    λ floatless. body_put name c.args.rewritten.now.text sent (string_bytes c.in_ok-body.body) (string_bytes c.write_name.new.into) (string_bytes c.write_key.new.into) (string_bytes c.write_string.new.into) (string_bytes c.push_str.new.self) (string_bytes c.write_key-2.new.into) (string_bytes c.write_variables.new.into) (string_bytes c.push_str-2.new.self)
    c.in_ok-body.ensures.ok c.in_ok-write_name.ensures c.in_ok-write_key.ensures (c.in_ok-write_string.ensures ∙ ap (λ text. string_bytes c.write_key.new.into ++ compact_text (string text)) c.as_str.ensures) c.in_ok-push_str.ensures.bytes c.in_ok-write_key-2.ensures
    (subst (λ ms. has_float (object ms) ≡ false → string_bytes c.write_variables.new.into ≡ string_bytes c.write_key-2.new.into ++ compact_text (object ms)) listed c.in_ok-write_variables.ensures.text (variables_floatless name c.args.rewritten.now.text sent floatless)) c.in_ok-push_str-2.ensures.bytes
