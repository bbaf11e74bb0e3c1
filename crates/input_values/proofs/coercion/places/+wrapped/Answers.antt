use Rattle.std.proofs.Common.{Err, ap, sym, ◌∙◌}
use Rattle.input_values.specs.inputs.Shapes.{shape_tree, list_shape}
use Rattle.input_values.specs.coercion.Places.{single_at, list_of_one}
use Rattle.input_values.proofs.ShapeTrees.{named_made, list_made}
use Rattle.input_values.proofs.CoercionSteps.Places.{item_below, list_above, at_named, mapped_tells}
use Rattle.input_values.proofs.coercion.places.+wrapped.Goals as goal

pub returns-in-Named : goal.returns-in-Named
returns-in-Named t c = λ before named h. at_named c.args.limit before c.args.count.now named c.args.inner (shape_tree c.args.shape.now) c.in-Named.of.number c.in-Named.nullable (ap shape_tree c.in-Named.is ∙ named_made c.in-Named.of c.in-Named.nullable) h

pub returns-in-Ok : goal.returns-in-Ok
returns-in-Ok t c = λ before named h.
    let is = ap shape_tree c.in-ListOf.is ∙ (list_made c.in-ListOf.item c.in-ListOf.nullable ∙ ap (λ x. list_shape (shape_tree x) c.in-ListOf.nullable) (sym c.deref.ensures)) in
    let item = shape_tree c.deref.result.now in
    list_above c.args.limit before c.list_of_one.new.count named c.list_of_one.result (shape_tree c.args.shape.now) item c.in-ListOf.nullable is
    (c.list_of_one.ensures before (single_at named item) (c.in-Ok.ensures before named (item_below c.args.limit before c.args.count.now named c.args.inner (shape_tree c.args.shape.now) item c.in-ListOf.nullable is h)))

pub returns-in-Err : goal.returns-in-Err
returns-in-Err t c = λ before named h.
    let is = ap shape_tree c.in-ListOf.is ∙ (list_made c.in-ListOf.item c.in-ListOf.nullable ∙ ap (λ x. list_shape (shape_tree x) c.in-ListOf.nullable) (sym c.deref.ensures)) in
    let item = shape_tree c.deref.result.now in
    list_above c.args.limit before c.wrapped.new.count named (Err c.in-Err.fault) (shape_tree c.args.shape.now) item c.in-ListOf.nullable is
    (mapped_tells list_of_one c.in-Err.fault (single_at named item) (c.in-Err.ensures before named (item_below c.args.limit before c.args.count.now named c.args.inner (shape_tree c.args.shape.now) item c.in-ListOf.nullable is h)))
