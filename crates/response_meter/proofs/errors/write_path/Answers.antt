-- A path is written as its steps.
use Rattle.std.proofs.Common.{option_map, sym, ap, ◌∙◌, string_bytes}
use Rattle.serde_json.specs.View.{view}
use Rattle.response_model.specs.Errors.{path_of}
use Rattle.response_model.proofs.ErrorTexts.{path_written}
use Rattle.response_meter.proofs.errors.write_path.Goals as goal

pub returns-in_ok-write_value-in-Some : goal.returns-in_ok-write_value-in-Some
returns-in_ok-write_value-in-Some c =
    let told = c.if-not-is_path.false in
    let w = path_written (string_bytes c.args.into.now) (string_bytes c.push_str.new.self) (string_bytes c.write_value.new.into) (view c.in-Some.path.now) (sym told ∙ c.is_path.ensures) c.in_ok-push_str-in-Some.ensures.bytes c.in_ok-write_value-in-Some.ensures.text in
    (w.0, ap (λ o. path_of (option_map (λ v. view v.now) o)) c.in-Some.is ∙ w.1, w.2)
