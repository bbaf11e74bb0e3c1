use Rattle.std.proofs.Common.{◌∙◌, sym, ap, ℕ, List, [], ◌∷◌, ◌++◌, Vec}
use Rattle.std.specs.declared.alloc.Global.{Global}
use Rattle.schema_model.specs.SchemaData.{field_at}
use Rattle.schema_model.specs.SchemaViews.{schema_data}
use Rattle.cost_directives.specs.WeightViews.{weights_data}
use Rattle.cost_directives.specs.FieldPlaces.{place_of_field}
use Rattle.schema_surprises.specs.Surprises.{is_told}
use Rattle.schema_surprises.proofs.Found.{found_one, found_none}
use Rattle.schema_surprises.proofs.fields.places_of.Goals as goal
use Rattle.schema_surprises.proofs.fields.places_of.Goals.{then-is_told+in_ok-field_place+in_ok-push, else-is_told}

pub loop-number-preserved : goal.loop-number-preserved
loop-number-preserved c =
    let s = schema_data c.args.schema.now in
    let weighed = weights_data c.args.weights.now in
    elim c.if-is_told.branch [
      | then-is_told+in_ok-field_place+in_ok-push w ↦
          found_one (λ n. place_of_field s (field_at s n)) (is_told c.args.surprise s weighed) c.loop-number.number c.loop-number.places.items c.if-is_told.places.items (sym c.is_told.ensures ∙ w.if-is_told.true)
          (ap (λ (v : Vec (List ℕ) Global). v.items) w.places-is ∙ (w.in_ok-push.ensures.items ∙ ap (λ place. c.loop-number.places.items ++ place ∷ []) w.in_ok-field_place.ensures))
          c.loop-number.invariant
      | else-is_told w ↦
          ap (λ (v : Vec (List ℕ) Global). v.items) w.places-is ∙ found_none (λ n. place_of_field s (field_at s n)) (is_told c.args.surprise s weighed) c.loop-number.number c.loop-number.places.items
          (sym c.is_told.ensures ∙ w.if-is_told.false) c.loop-number.invariant
    ]
