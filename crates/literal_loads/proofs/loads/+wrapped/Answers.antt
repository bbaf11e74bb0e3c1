use Rattle.std.proofs.Common.{sym, ap, ◌∙◌, subst}
use Rattle.std.specs.Prelude.{IfSome}
use Rattle.std.proofs.lemmas.Option.{IfSome_then}
use Rattle.input_values.specs.inputs.Shapes.{list_shape, shape_tree}
use Rattle.input_values.specs.coercion.Places.{innermost}
use Rattle.input_values.proofs.ShapeTrees.{named_made, list_made}
use Rattle.literal_loads.specs.Loads.{WeighsNamed}
use Rattle.literal_loads.proofs.LoadsOfPlaces.{wraps_named, wraps_list}
use Rattle.literal_loads.proofs.loads.+wrapped.Goals as goal

pub returns-in-Named : goal.returns-in-Named
returns-in-Named t c = λ e named h.
    let s = shape_tree c.args.shape.now in
    IfSome_then c.args.inner h (λ load. wraps_named e s c.in-Named.of.number c.in-Named.nullable named load (ap shape_tree c.in-Named.is ∙ named_made c.in-Named.of c.in-Named.nullable))

pub returns-in_ok-wrapped-in-ListOf : goal.returns-in_ok-wrapped-in-ListOf
returns-in_ok-wrapped-in-ListOf t c = λ e named h.
    let s = shape_tree c.args.shape.now in
    let item = shape_tree c.deref.result.now in
    let is = ap shape_tree c.in-ListOf.is ∙ (list_made c.in-ListOf.item c.in-ListOf.nullable ∙ ap (λ x. list_shape (shape_tree x) c.in-ListOf.nullable) (sym c.deref.ensures)) in
    IfSome_then c.list_of.result c.list_of.ensures
    (λ list round. wraps_list e s item c.in-ListOf.nullable named c.in_ok-wrapped-in-ListOf.field-0 list is (c.in_ok-wrapped-in-ListOf.ensures e named (subst (λ x. IfSome c.args.inner (WeighsNamed e (innermost x) (named (innermost x)))) is h)) round)
