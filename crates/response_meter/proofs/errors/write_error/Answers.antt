-- An error is written as its message and its path.
use Rattle.std.proofs.Common.{sym, ◌∙◌, option_map, string_bytes}
use Rattle.serde_json.specs.View.{view}
use Rattle.response_model.proofs.ErrorTexts.{error_written}
use Rattle.response_meter.proofs.errors.write_error.Goals as goal

pub returns : goal.returns
returns c =
    error_written (string_bytes c.args.into.now) (string_bytes c.push_str.new.self) (string_bytes c.write_value.new.into) (string_bytes c.write_path.new.into) (string_bytes c.push_str-2.new.self)
    (view c.args.error.now) (view c.in-Some.message.now) (option_map (λ v. view v.now) c.get-2.result) c.in-Some.ensures (sym c.if-is_string.true ∙ c.is_string.ensures)
    c.in_ok-push_str.ensures.bytes c.in_ok-write_value.ensures.text c.get-2.ensures c.in_ok-write_path.ensures c.in_ok-push_str-2.ensures.bytes
