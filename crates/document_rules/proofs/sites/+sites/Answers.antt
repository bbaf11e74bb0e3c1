use Rattle.std.proofs.Common.{refl, sym, ap, ◌∙◌, map, ◌++◌}
use Rattle.std.specs.Prelude.{option_map}
use Rattle.std.proofs.lemmas.Result.{on_ok_weaker}
use Rattle.gql_base.specs.parts.Trees.{identifier_of, directive_tree}
use Rattle.document_reader.specs.Trees.{maybe_identifier, selection_tree}
use Rattle.document_reader.proofs.ReadingSteps.{tree_of_field, tree_of_inline}
use Rattle.document_reader.proofs.PrintingSteps.{tree_of_spread}
use Rattle.schema_model.specs.Numbers.{type_number}
use Rattle.schema_model.specs.SchemaViews.{schema_data}
use Rattle.document_rules.specs.Sites.{spread_site, inline_site, sites_in_one}
use Rattle.document_rules.specs.Views.{site_data, meaning_data}
use Rattle.document_rules.proofs.SiteSteps.{put_alone, sites_next, sites_end, sites_of_spread, field_gathered, inline_gathered}
use Rattle.document_rules.proofs.sites.+sites.Goals as goal

pub add_field-returns : goal.add_field-returns
add_field-returns t c = on_ok_weaker c.add_selections.result (field_gathered (schema_data c.args.schema.now) c.args.within (option_map type_number c.args.parent) c.args.field.now (meaning_data c.meaning_on-meaning.result) c.as_str.result.now (option_map type_number c.below_field-below.result) c.as_slice.result.now
    c.args.into.now.items c.push.new.self.items _ (map site_data c.add_selections.new.into.items) c.in_ok-push.ensures.items refl c.meaning_on-meaning.ensures c.as_str.ensures c.below_field-below.ensures c.as_slice.ensures.value) c.add_selections.ensures

pub add_selection-returns-in-Field : goal.add_selection-returns-in-Field
add_selection-returns-in-Field t c = on_ok_weaker c.add_field.result (λ e. e ∙ ap (λ x. map site_data c.args.into.now.items ++ sites_in_one (schema_data c.args.schema.now) c.args.within (option_map type_number c.args.parent) x) (sym (ap selection_tree c.in-Field.is ∙ tree_of_field c.in-Field.field))) c.add_field.ensures

pub add_selection-returns-in_ok-push-in-Spread : goal.add_selection-returns-in_ok-push-in-Spread
add_selection-returns-in_ok-push-in-Spread t c =
    put_alone c.args.into.now.items c.push.new.self.items _ _ c.in_ok-push-in-Spread.ensures.items (ap (λ l. spread_site c.args.within (identifier_of c.in-Spread.name) (map directive_tree l)) c.as_slice.ensures.value)
    ∙ ap (λ l. map site_data c.args.into.now.items ++ l) (sites_of_spread (schema_data c.args.schema.now) c.args.within (option_map type_number c.args.parent) (selection_tree c.args.selection.now) (identifier_of c.in-Spread.name) (map directive_tree c.in-Spread.directives.items) (ap selection_tree c.in-Spread.is ∙ tree_of_spread c.in-Spread.name c.in-Spread.directives))

pub add_selection-returns-in_ok-push-in-Inline : goal.add_selection-returns-in_ok-push-in-Inline
add_selection-returns-in_ok-push-in-Inline t c = on_ok_weaker c.add_selections.result (inline_gathered (schema_data c.args.schema.now) c.args.within (option_map type_number c.args.parent) (selection_tree c.args.selection.now) (maybe_identifier c.in-Inline.on) (map directive_tree c.in-Inline.directives.items) c.in-Inline.selections.items c.as_slice-in-Inline-2.result.now
    (option_map type_number c.below_inline-below.result) c.args.into.now.items c.push-in-Inline.new.self.items _ (map site_data c.add_selections.new.into.items) (ap selection_tree c.in-Inline.is ∙ tree_of_inline c.in-Inline.on c.in-Inline.directives c.in-Inline.selections)
    c.in_ok-push-in-Inline.ensures.items (ap (λ l. inline_site (maybe_identifier c.in-Inline.on) (map directive_tree l)) c.as_slice-in-Inline.ensures.value) c.below_inline-below.ensures c.as_slice-in-Inline-2.ensures.value) c.add_selections.ensures

pub add_selections-loop-selection-preserved : goal.add_selections-loop-selection-preserved
add_selections-loop-selection-preserved t c = sites_next (schema_data c.args.schema.now) c.args.within (option_map type_number c.args.parent) c.args.selections.now c.loop-selection.selection-index c.selection-item.result (map site_data c.loop-selection.into.items) (map site_data c.add_selection.new.into.items) _ c.loop-selection-test.true c.selection-item.is c.in_ok-add_selection.ensures c.loop-selection.invariant

pub add_selections-returns : goal.add_selections-returns
add_selections-returns t c = sites_end (schema_data c.args.schema.now) c.args.within (option_map type_number c.args.parent) c.args.selections.now c.loop-selection.selection-index (map site_data c.loop-selection.into.items) _ c.loop-selection-test.false c.loop-selection.invariant
