-- The errors that were written and those that are left give the whole.
use Rattle.std.proofs.Common.{drop, string_bytes}
use denote.Text.{Utf8}
use denote.Shadow.{shadow}
use Rattle.serde_json.specs.View.{items_view}
use Rattle.response_model.proofs.ErrorTexts.{ErrorsLeft}
use Rattle.response_meter.proofs.errors.write_items.Given as goal

abbrev pub invariant-loop-item : goal.invariant-loop-item
invariant-loop-item l = shadow (Utf8 l.front) × ErrorsLeft (string_bytes l.initial.into) (string_bytes l.into) l.front (items_view (drop l.item-index l.items)) (items_view l.items)
