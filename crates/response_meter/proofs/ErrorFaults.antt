-- What is not well formed among the errors of a reply makes the whole not well formed.
use Rattle.std.proofs.Common.{◌≡◌, ◌<◌, ◌+◌, ℕ, List, length, drop, get_or, Option, Some, None, refl, ap, ◌∙◌}
use Rattle.serde_json.specs.View.{view, items_view}
use Rattle.serde_json.specs.declared.value.Value.{Value}
use Rattle.response_model.specs.Errors.{read_then, error_of, errors_in}
use Rattle.response_model.proofs.ErrorTexts.{ErrorsLeft}
use Rattle.response_model.proofs.Pieces.{items_from}
use Rattle.response_meter.specs.declared.fault.MeterFault.{MeterFault}
use Rattle.response_meter.specs.declared.fault.MeterFault.TheVariants.{NotResponse, SizeBroken, Memory}
use Rattle.response_meter.specs.declared.fault.Why.TheVariants.{BadErrors}
use Rattle.response_meter.specs.Faults.{Fault, Tells, given}

none_some : {A : Type 0} {x : Fault} → None ≡ Some x → A
none_some h = absurd (differ h)
  where
    differ : {x : Fault} → None ≡ Some x → ⊥
    differ h = cc

pub given_same : {A B : Type 0} (f : MeterFault) (o : Option A) (q : Option B) → (o ≡ None → q ≡ None) → Tells f (given o BadErrors (λ x. None)) → Tells f (given q BadErrors (λ x. None))
given_same (NotResponse path why) None q h t = ap (λ z. given z BadErrors (λ x. None)) (h refl) ∙ t
given_same (NotResponse path why) (Some x) q h t = none_some t
given_same (SizeBroken path size length) None q h t = ap (λ z. given z BadErrors (λ x. None)) (h refl) ∙ t
given_same (SizeBroken path size length) (Some x) q h t = none_some t
given_same Memory o q h t = tt

pub errors_refused : (before now front : List ℕ) (items : List Value) (i : ℕ) (v : Value) (f : MeterFault) → i < length items → v ≡ get_or items i v
    → ErrorsLeft before now front (items_view (drop i items)) (items_view items) → Tells f (given (error_of (view v)) BadErrors (λ x. None)) → Tells f (given (errors_in (items_view items)) BadErrors (λ x. None))
errors_refused before now front items i v f less is l t =
    given_same f (error_of (view v)) (errors_in (items_view items))
    (λ none. l.fails (ap errors_in (items_from items i v less is) ∙ ap (λ o. read_then o (errors_in (items_view (drop (i + 1) items)))) none)) t
