use Rattle.std.proofs.Common.{sym, ◌∙◌, ap}
use Rattle.serde_json.specs.Data.{string}
use Rattle.serde_json.specs.declared.value.Value.{String as StringValue}
use Rattle.serde_json.specs.View.{view}
use Rattle.trusted_documents.specs.FilledBodies.{with_query}
use Rattle.trusted_documents.proofs.FilledObjects.{made, view-String}
use Rattle.trusted_documents.proofs.filled_body.with_query.Goals as goal

pub returns-in_ok-insert-in-Object : goal.returns-in_ok-insert-in-Object
returns-in_ok-insert-in-Object c =
    made c.in-Object.members c.insert.new.self c.remove.new.self c.in_ok-key-in-Object.key c.args.query.now (StringValue c.in_ok-to_string-in-Object.field-0) c.in_ok-key-in-Object.ensures.ok (view-String c.in_ok-to_string-in-Object.field-0 ∙ ap string c.in_ok-to_string-in-Object.ensures.ok) c.in_ok-insert-in-Object.ensures.entries c.remove.ensures.entries
    ∙ ap (λ json. with_query c.args.query.now (view json)) (sym c.in-Object.is)
