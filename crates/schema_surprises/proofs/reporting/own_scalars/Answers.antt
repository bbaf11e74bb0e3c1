use Rattle.std.proofs.Common.{◌∙◌, sym, ap, ℕ, List, [], ◌∷◌, ◌++◌, Vec}
use Rattle.std.specs.declared.alloc.Global.{Global}
use Rattle.schema_model.specs.SchemaData.{type_at}
use Rattle.schema_model.specs.SchemaViews.{schema_data}
use Rattle.schema_surprises.specs.Surprises.{is_own_scalar}
use Rattle.schema_surprises.proofs.Found.{found_one, found_none}
use Rattle.schema_surprises.proofs.reporting.own_scalars.Goals as goal
use Rattle.schema_surprises.proofs.reporting.own_scalars.Goals.{then-is_own_scalar+in_ok-copy_of+in_ok-push, else-is_own_scalar}

pub loop-number-preserved : goal.loop-number-preserved
loop-number-preserved c =
    let s = schema_data c.args.schema.now in
    elim c.if-is_own_scalar.branch [
      | then-is_own_scalar+in_ok-copy_of+in_ok-push w ↦
          found_one (λ n. (type_at s n).name) (is_own_scalar s) c.loop-number.number c.loop-number.names.items c.if-is_own_scalar.names.items
          (sym c.is_own_scalar.ensures ∙ w.if-is_own_scalar.true)
          (ap (λ (v : Vec (List ℕ) Global). v.items) w.names-is ∙ (w.in_ok-push.ensures.items ∙ ap (λ name. c.loop-number.names.items ++ name ∷ []) (w.in_ok-copy_of.ensures ∙ (w.as_str.ensures ∙ w.type_name.ensures))))
          c.loop-number.invariant
      | else-is_own_scalar w ↦
          ap (λ (v : Vec (List ℕ) Global). v.items) w.names-is ∙ found_none (λ n. (type_at s n).name) (is_own_scalar s) c.loop-number.number c.loop-number.names.items
          (sym c.is_own_scalar.ensures ∙ w.if-is_own_scalar.false) c.loop-number.invariant
    ]
