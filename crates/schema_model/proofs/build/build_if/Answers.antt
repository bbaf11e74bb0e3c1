use Rattle.std.proofs.Common.{map, sym, ap, ◌∙◌}
use Rattle.schema_reader.specs.Trees.{schema_trees}
use Rattle.schema_rules.specs.TypeNames.{types_of}
use Rattle.schema_rules.specs.Views.{item_tree, named_kind}
use Rattle.schema_model.specs.DraftViews.{type_view}
use Rattle.schema_model.proofs.FaultSteps.{whole}
use Rattle.schema_model.proofs.build.build_if.Goals as goal

pub returns : goal.returns
returns c = whole c.args.refused (schema_trees c.args.text.now) (map named_kind c.in_ok-types.types.items.now) (map type_view c.deref-3.result.now) (map item_tree c.deref-4.result.now) c.built.result
    (ap (map item_tree) c.deref-4.ensures.value ∙ c.in_ok-items.ensures)
    (ap (map named_kind) (c.in_ok-types.ensures ∙ c.deref-2.ensures.value) ∙ (c.in_ok-names.ensures ∙ ap (λ l. types_of (map item_tree l)) (c.deref.ensures.value ∙ sym c.deref-4.ensures.value)))
    (ap (map type_view) c.deref-3.ensures.value ∙ c.in_ok-drafts.ensures)
    c.built.ensures
