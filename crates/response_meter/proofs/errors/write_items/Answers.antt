-- Each error is written after those before it.
use Rattle.std.proofs.Common.{◌∷◌, [], refl, string_bytes}
use Rattle.std.proofs.lemmas.Result.{err_from_is_err_and}
use Rattle.serde_json.specs.View.{items_view}
use Rattle.response_model.proofs.ErrorTexts.{errors_begin, errors_step, errors_end}
use Rattle.response_meter.proofs.ErrorFaults.{errors_refused}
use Rattle.response_meter.proofs.errors.write_items.Goals as goal

pub loop-item-init : goal.loop-item-init
loop-item-init c = (([], (refl, refl)), errors_begin (string_bytes c.args.into.now) (items_view c.args.items.now))

pub loop-item-preserved : goal.loop-item-preserved
unfolding lib.Utf8.encode
loop-item-preserved c = (
  (44 ∷ [], (refl, refl)),
  errors_step (string_bytes c.args.into.now) (string_bytes c.loop-item.into) (string_bytes c.push_str.new.self) (string_bytes c.write_error.new.into) c.loop-item.front.now c.args.items.now c.loop-item.item-index
      c.item-item.result c.loop-item-test.true c.item-item.is c.loop-item.invariant.1 c.in_ok-push_str.ensures.bytes c.in_ok-write_error.ensures,
)

pub returns-in_err-write_error : goal.returns-in_err-write_error
returns-in_err-write_error c =
    let p = err_from_is_err_and c.from_residual-in_err-write_error.result c.from_residual-in_err-write_error.ensures.1 in
    rw (p.1, p.2) (errors_refused (string_bytes c.args.into.now) (string_bytes c.loop-item.into) c.loop-item.front.now c.args.items.now c.loop-item.item-index c.item-item.result
    c.in_err-write_error.field-0.0 c.loop-item-test.true c.item-item.is c.loop-item.invariant.1 c.in_err-write_error.ensures)

pub returns : goal.returns
returns c =
    errors_end (string_bytes c.args.into.now) (string_bytes c.loop-item.into) (string_bytes c.push_str-2.new.self) c.loop-item.front.now c.args.items.now c.loop-item.item-index c.loop-item-test.false c.loop-item.invariant.1
    c.in_ok-push_str-2.ensures.bytes
