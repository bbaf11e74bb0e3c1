-- A member is its comma, its key and a text of its value.
use Rattle.std.proofs.Common.{◌≡◌, ◌++◌, string_bytes, append-nil, sym, ap, ◌∙◌}
use Rattle.std.proofs.lemmas.Result.{on_ok_weaker}
use Rattle.serde_json.specs.View.{view}
use Rattle.serde_json.specs.Written.{comma_if}
use Rattle.typename_rewrite.proofs.BodyTexts.{member_appended}
use Rattle.typename_rewrite.proofs.body.write_member.Goals.{then-later+in_ok-push_str, else-later}
use Rattle.typename_rewrite.proofs.body.write_member.Goals as goal

pub returns-clause-written : goal.returns-clause-written
returns-clause-written c =
    let comma : string_bytes c.if-later.into ≡ string_bytes c.args.into.now ++ comma_if c.args.later =
    elim c.if-later.branch [
      | then-later+in_ok-push_str w ↦ ap string_bytes w.into-is ∙ (w.in_ok-push_str.ensures.bytes ∙ ap (λ b. string_bytes c.args.into.now ++ comma_if b) (sym w.if-later.true))
      | else-later w ↦ ap string_bytes w.into-is ∙ (sym (append-nil (string_bytes c.args.into.now)) ∙ ap (λ b. string_bytes c.args.into.now ++ comma_if b) (sym w.if-later.false))
    ] in
    on_ok_weaker c.write_value.result
    (member_appended c.args.later c.args.key.now (view c.args.value.now) (string_bytes c.args.into.now) (string_bytes c.if-later.into) (string_bytes c.write_key.new.into) (string_bytes c.write_value.new.into) comma c.in_ok-write_key.ensures)
    c.write_value.ensures.written
