use Rattle.std.proofs.Common.{refl, sym, ap, ap₂, ◌∙◌, map}
use Rattle.std.specs.Prelude.{◌&&◌}
use Rattle.input_values.specs.inputs.Shapes.{shape_tree, level_tree, named_shape, list_shape}
use Rattle.input_values.proofs.ShapeTrees.{named_made, list_made}
use Rattle.schema_model.specs.DraftViews.{type_view}
use Rattle.schema_model.specs.Implementing.{is_narrower}
use Rattle.schema_model.proofs.Narrowing.{narrower}
use Rattle.schema_model.proofs.implementing.+is_narrower.Goals as goal

pub returns-in-Named-shape_level : goal.returns-in-Named-shape_level
unfolding is_narrower
returns-in-Named-shape_level t c = narrower (map type_view c.args.types.now) (shape_tree c.args.own.now) (shape_tree c.args.wanted.now) (named_shape c.in-Named.of.number c.in-Named.nullable) (named_shape c.in-Named-shape_level.other.number c.in-Named-shape_level.may) (c.is_no_looser.result && c.is_kind_of.result)
    (ap shape_tree c.in-Named.is ∙ named_made c.in-Named.of c.in-Named.nullable) (sym c.shape_level.ensures ∙ ap level_tree c.in-Named-shape_level.is) (ap₂ (λ a b. a && b) c.is_no_looser.ensures c.is_kind_of.ensures)

pub returns-in-ListOf-shape_level : goal.returns-in-ListOf-shape_level
unfolding is_narrower
returns-in-ListOf-shape_level t c = narrower (map type_view c.args.types.now) (shape_tree c.args.own.now) (shape_tree c.args.wanted.now) (named_shape c.in-Named.of.number c.in-Named.nullable) (list_shape (shape_tree c.in-ListOf-shape_level.item.now) c.in-ListOf-shape_level.nullable) _
    (ap shape_tree c.in-Named.is ∙ named_made c.in-Named.of c.in-Named.nullable) (sym c.shape_level.ensures ∙ ap level_tree c.in-ListOf-shape_level.is) refl

pub returns-in-Named-shape_level-2 : goal.returns-in-Named-shape_level-2
unfolding is_narrower
returns-in-Named-shape_level-2 t c = narrower (map type_view c.args.types.now) (shape_tree c.args.own.now) (shape_tree c.args.wanted.now) (list_shape (shape_tree c.in-ListOf.item.value) c.in-ListOf.nullable) (named_shape c.in-Named-shape_level-2.of.number c.in-Named-shape_level-2.nullable) _
    (ap shape_tree c.in-ListOf.is ∙ list_made c.in-ListOf.item c.in-ListOf.nullable) (sym c.shape_level-in-ListOf.ensures ∙ ap level_tree c.in-Named-shape_level-2.is) refl

pub returns-in-ListOf-shape_level-2 : goal.returns-in-ListOf-shape_level-2
unfolding is_narrower
returns-in-ListOf-shape_level-2 t c = narrower (map type_view c.args.types.now) (shape_tree c.args.own.now) (shape_tree c.args.wanted.now) (list_shape (shape_tree c.in-ListOf.item.value) c.in-ListOf.nullable) (list_shape (shape_tree c.in-ListOf-shape_level-2.other.now) c.in-ListOf-shape_level-2.may) (c.is_no_looser-in-ListOf-shape_level-2.result && c.is_narrower.result)
    (ap shape_tree c.in-ListOf.is ∙ list_made c.in-ListOf.item c.in-ListOf.nullable) (sym c.shape_level-in-ListOf.ensures ∙ ap level_tree c.in-ListOf-shape_level-2.is) (ap₂ (λ a b. a && b) c.is_no_looser-in-ListOf-shape_level-2.ensures (c.is_narrower.ensures ∙ ap (λ x. is_narrower (map type_view c.args.types.now) (shape_tree x) (shape_tree c.in-ListOf-shape_level-2.other.now)) c.deref.ensures))
