-- An object whose entries were measured.
use Rattle.std.proofs.Common.{◌≡◌, ◌+◌, ℕ, List, [], ◌++◌, Bool, true, false, codes, Some, Ok, refl, sym, ap, ◌∙◌, arith}
use Rattle.cost_num.specs.Capped.{capped}
use Rattle.cost_num.specs.declared.Cost.{Cost}
use Rattle.serde_json.specs.Data.{Members}
use Rattle.response_model.specs.Plan.{Nodes}
use Rattle.response_model.specs.Cost.{types, fields, entries_cost}
use Rattle.response_model.specs.AnswerTexts.{AreEntriesText}
use Rattle.plan_model.specs.Plans.{type_weight}
use Rattle.response_meter.specs.declared.fault.MeterFault.{MeterFault}
use Rattle.response_meter.specs.declared.fault.Why.TheVariants.{ExtraKey}
use Rattle.response_meter.specs.declared.readings.Reading.{Reading}
use Rattle.response_meter.specs.Faults.{Tells, not_response, tested}
use Rattle.response_meter.specs.FirstFault.{keys_known}
use Rattle.response_meter.specs.Walks.{setting, entries_fault, member_entries, object_fault, MeasuresEntries, MeasuresObject}
use Rattle.response_meter.proofs.Left.{tells_same}
use Rattle.response_meter.proofs.Places.{behind_appended}

own_and_entries : (own c s w t : ℕ) → own ≡ w → c ≡ capped t → s ≡ capped (own + c) → s ≡ capped (w + t)
own_and_entries own c s w t o e q = omega arith

module _ (by : Reading) (asked : Bool) (nodes : Nodes) (ms : Members) (known : Bool) (tells : known ≡ keys_known by.alias.now asked nodes ms) where
  pub extra_key : known ≡ false → Some (not_response [] ExtraKey) ≡ object_fault by asked nodes ms
  extra_key not = ap (λ (b : Bool). tested b ExtraKey (entries_fault by nodes ms)) (sym not ∙ tells)

  pub object_refused : (x : MeterFault) → known ≡ true → Tells x (entries_fault by nodes ms) → Tells x (object_fault by asked nodes ms)
  object_refused x is told = tells_same x (entries_fault by nodes ms) (object_fault by asked nodes ms) (ap (λ (b : Bool). tested b ExtraKey (entries_fault by nodes ms)) (sym is ∙ tells)) told

  pub object_closed : (before mid after : List ℕ) (T own : ℕ) (c s : Cost) → known ≡ true → mid ≡ before ++ codes "{" → own ≡ type_weight (setting by) T → MeasuresEntries by mid after (Ok c) nodes ms
      → s.types ≡ capped (own + c.types) → s.fields ≡ capped (0 + c.fields) → MeasuresObject by before after (Ok s) asked T nodes ms
  object_closed before mid after T own c s is opened weighs m p q = (
    sym (ap (λ (b : Bool). tested b ExtraKey (entries_fault by nodes ms)) (sym is ∙ tells)) ∙ m.0,
    own_and_entries own c.types s.types (type_weight (setting by) T) (entries_cost types nodes (member_entries by nodes ms)) weighs m.1 p,
    own_and_entries 0 c.fields s.fields 0 (entries_cost fields nodes (member_entries by nodes ms)) refl m.2 q,
    behind_appended before mid after (codes "{") (AreEntriesText [] (member_entries by nodes ms)) opened m.3,
  )
