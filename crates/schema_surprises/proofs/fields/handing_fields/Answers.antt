use Rattle.std.proofs.Common.{◌∙◌, sym, ap, [], ◌∷◌, map, Vec}
use Rattle.std.specs.declared.alloc.Global.{Global}
use Rattle.std.proofs.lemmas.List.{map-append}
use Rattle.schema_model.specs.declared.entries.FieldId.{FieldId}
use Rattle.schema_model.specs.Entries.{field_number}
use Rattle.cost_directives.specs.WeightViews.{weights_data}
use Rattle.schema_surprises.specs.Surprises.{hands_some}
use Rattle.schema_surprises.proofs.Found.{kept_one, kept_none}
use Rattle.schema_surprises.proofs.fields.handing_fields.Goals as goal
use Rattle.schema_surprises.proofs.fields.handing_fields.Goals.{then-hands_some+in_ok-push, else-hands_some}

pub loop-number-preserved : goal.loop-number-preserved
loop-number-preserved c =
    let some = hands_some (weights_data c.args.weights.now) in
    let n = c.loop-number.number in
    let before = c.loop-number.handing.items in
    elim c.if-hands_some.branch [
      | then-hands_some+in_ok-push w ↦
          kept_one some n (map field_number before) (map field_number c.if-hands_some.handing.items) (sym c.hands_some.ensures ∙ w.if-hands_some.true)
          (ap (λ (v : Vec FieldId Global). map field_number v.items) w.handing-is
          ∙ (ap (map field_number) w.in_ok-push.ensures.items ∙ map-append field_number before (record { number = n } ∷ []))) c.loop-number.invariant
      | else-hands_some w ↦
          ap (λ (v : Vec FieldId Global). map field_number v.items) w.handing-is ∙ kept_none some n (map field_number before) (sym c.hands_some.ensures ∙ w.if-hands_some.false) c.loop-number.invariant
    ]
