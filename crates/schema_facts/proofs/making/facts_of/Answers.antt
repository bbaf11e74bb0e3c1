use Rattle.std.proofs.Common.{◌++◌, ap, ◌∙◌, map}
use Rattle.std.proofs.lemmas.Result.{IfOk-weaker}
use Rattle.schema_reader.specs.Trees.{definition_tree, schema_trees}
use Rattle.schema_facts.specs.Facts.{known_type, schema_description, not_defined}
use Rattle.schema_facts.specs.FactsViews.{facts_data}
use Rattle.schema_facts.proofs.MakingSteps.{facts_made}
use Rattle.schema_facts.proofs.making.facts_of.Goals as goal

pub returns : goal.returns
returns c =
    IfOk-weaker c.facts_with.result _ _ (λ f is.
    facts_made (schema_trees c.args.text) (schema_trees c.in_ok-meta.meta) (schema_trees c.in_ok-built_ins.built_ins) c.in_ok-told.told
    (map known_type c.new-types.result.items) (map known_type c.sort_definitions.new.types.items) (map known_type c.add_scalars.new.types.items) (map known_type c.add_meta_types.new.types.items)
    (map definition_tree c.new-directives.result.items) (map definition_tree c.add_not_defined.new.directives.items) (map definition_tree c.sort_definitions.new.directives.items)
    c.in_ok-description.description c.or_empty.result.now c.as_str-2.result.now c.as_str-4.result.now (facts_data f)
    c.in_ok-told.ensures (c.in_ok-description.ensures ∙ ap (λ l. schema_description (map definition_tree l)) c.deref.ensures.value)
    c.or_empty.ensures (c.as_str-2.ensures ∙ c.in_ok-meta_text.ensures) c.in_ok-meta.ensures (c.as_str-4.ensures ∙ c.in_ok-built_in_directives.ensures) c.in_ok-built_ins.ensures
    (ap (map known_type) c.new-types.ensures.items) c.in_ok-sort_definitions.ensures.types c.in_ok-add_scalars.ensures c.in_ok-add_meta_types.ensures
    (ap (map definition_tree) c.new-directives.ensures.items)
    (c.in_ok-add_not_defined.ensures ∙ ap (λ l. map definition_tree c.new-directives.result.items ++ not_defined (map definition_tree l) (schema_trees c.in_ok-built_ins.built_ins)) c.deref-2.ensures.value)
    c.in_ok-sort_definitions.ensures.directives is) c.facts_with.ensures
