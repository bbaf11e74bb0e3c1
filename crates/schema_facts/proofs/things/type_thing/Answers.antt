use Rattle.std.proofs.Common.{sym, ap, ◌∙◌}
use Rattle.gql_base.proofs.PartLaws.ValueSteps.{list_type_tree, non_null_tree, named_type_tree}
use Rattle.gql_base.specs.parts.Trees.{type_tree}
use Rattle.schema_facts.specs.Facts.{number_named}
use Rattle.schema_facts.specs.FactsViews.{facts_data}
use Rattle.schema_facts.specs.Things.{a_type, a_list_type, a_non_null_type, type_thing}
use Rattle.schema_facts.proofs.things.type_thing.Goals as goal

pub returns-in-Named : goal.returns-in-Named
returns-in-Named c =
    ap a_type (c.number_named.ensures ∙ ap (number_named (facts_data c.args.facts.now).types) c.as_str.ensures)
    ∙ sym (ap (type_thing (facts_data c.args.facts.now)) (ap type_tree c.in-Named.is ∙ named_type_tree c.in-Named.name))

pub returns-in-ListOf : goal.returns-in-ListOf
returns-in-ListOf c =
    ap (λ t. a_list_type (type_tree t)) c.deref.ensures ∙ sym (ap (type_thing (facts_data c.args.facts.now)) (ap type_tree c.in-ListOf.is ∙ list_type_tree c.in-ListOf.item))

pub returns-in-NonNull : goal.returns-in-NonNull
returns-in-NonNull c =
    ap (λ t. a_non_null_type (type_tree t)) c.deref-in-NonNull.ensures ∙ sym (ap (type_thing (facts_data c.args.facts.now)) (ap type_tree c.in-NonNull.is ∙ non_null_tree c.in-NonNull.inner))
