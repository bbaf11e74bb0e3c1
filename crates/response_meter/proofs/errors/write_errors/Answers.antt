-- A list of some errors is written as their part of the answer.
use Rattle.std.proofs.Common.{Some, true≢false, option_map, sym, ap, ◌∙◌, string_bytes}
use Rattle.std.specs.Bool.{◌==◌}
use Rattle.serde_json.specs.View.{view, items_view}
use Rattle.serde_json.proofs.Views.{view-Array}
use Rattle.response_model.specs.Errors.{errors_of, errors_in}
use Rattle.response_model.proofs.ErrorTexts.{some_errors, part_written}
use Rattle.response_meter.proofs.errors.write_errors.Goals as goal

pub returns-in_ok-write_items-in-Array : goal.returns-in_ok-write_items-in-Array
returns-in_ok-write_items-in-Array c =
    let w = c.in_ok-write_items-in-Array.ensures in
    let some = some_errors c.as_slice-items.result.now w.0 (λ z. true≢false (sym (ap (λ n. n == 0) z) ∙ sym c.is_empty.ensures ∙ c.if-is_empty.false)) w.1 in (
      w.0,
      ap (λ o. errors_of (option_map (λ v. view v.now) o)) c.in-Some.is ∙ ap (λ v. errors_of (Some (view v))) c.in-Array.is ∙ ap (λ d. errors_of (Some d)) (view-Array c.in-Array.items)
          ∙ ap (λ vs. errors_in (items_view vs)) (sym c.as_slice-items.ensures.value) ∙ w.1,
      some,
      part_written (string_bytes c.args.into.now) (string_bytes c.push_str.new.self) (string_bytes c.write_items.new.into) w.0 some c.in_ok-push_str-in-Array.ensures.bytes w.2,
    )
