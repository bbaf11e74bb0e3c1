use Rattle.std.proofs.Common.{◌+◌, map, take, sym, ap, ◌∙◌, subst, Vec}
use Rattle.std.specs.declared.alloc.Global.{Global}
use Rattle.schema_model.specs.SchemaViews.{schema_data}
use Rattle.plan_model.specs.Likeness.{LooksLike, HasLike, AreLike}
use Rattle.collected_fields.specs.declared.collected.Collected.{Collected}
use Rattle.collected_fields.specs.Views.{collected_field}
use Rattle.collected_fields.proofs.AlikeLaws.{one_left_out, one_stays, all_looked_at}
use Rattle.collected_fields.proofs.alike.unlike_fields.Goals as goal
use Rattle.collected_fields.proofs.alike.unlike_fields.Goals.{then-not-has_like+in_ok-push, else-not-has_like}

pub loop-field-preserved : goal.loop-field-preserved
loop-field-preserved c = elim c.if-not-has_like.branch [
  | then-not-has_like+in_ok-push w ↦
      one_stays (schema_data c.args.schema.now) c.args.fields.now c.loop-field.field-index c.field-item.result c.loop-field-test.true c.field-item.is c.loop-field.unlike.items c.if-not-has_like.unlike.items (ap (λ (v : Vec Collected Global). v.items) w.unlike-is ∙ w.in_ok-push.ensures.items) c.loop-field.invariant
  | else-not-has_like w ↦
      subst (λ (v : Vec Collected Global). AreLike (schema_data c.args.schema.now) (map collected_field (take (c.loop-field.field-index + 1) c.args.fields.now)) (map collected_field v.items)) (sym w.unlike-is)
      (one_left_out (schema_data c.args.schema.now) c.args.fields.now c.loop-field.field-index c.field-item.result c.loop-field-test.true c.field-item.is c.loop-field.unlike.items c.loop-field.invariant
      (subst (λ fs. HasLike (LooksLike (schema_data c.args.schema.now)) (map collected_field fs) (collected_field c.field-item.result)) c.as_slice.ensures.value (c.has_like.ensures w.if-not-has_like.false)))
]

pub returns : goal.returns
returns c = all_looked_at (schema_data c.args.schema.now) c.args.fields.now c.loop-field.unlike.items c.loop-field.field-index c.loop-field-test.false c.loop-field.invariant
