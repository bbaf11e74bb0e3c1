use Rattle.std.proofs.Common.{refl, sym, ap, ◌∙◌, map, subst, List}
use Rattle.std.proofs.lemmas.Result.{on_ok_weaker}
use Rattle.gql_base.specs.parts.Trees.{identifier_of, directive_tree}
use Rattle.document_reader.specs.declared.trees.Selection.{Selection}
use Rattle.document_reader.specs.Trees.{selection_tree, field_tree, set_tree, maybe_identifier}
use Rattle.document_reader.specs.Documents.{SelectionTree, fragment_spread, inline_fragment}
use Rattle.document_reader.proofs.ReadingSteps.{tree_of_field, tree_of_inline}
use Rattle.document_reader.proofs.PrintingSteps.{tree_of_spread}
use Rattle.variable_coercion.specs.Calls.{environment}
use Rattle.distinct_selections.specs.Adding.{AddsOne}
use Rattle.distinct_selections.proofs.IncludedSelections.{field_told, spread_told, inline_told}
use Rattle.distinct_selections.proofs.AddingSteps.{none_added, set_begun, set_more, set_whole}
use Rattle.distinct_selections.proofs.ShorteningSteps.{field_added, inline_added}
use Rattle.distinct_selections.proofs.distinct.+shorten.Goals as goal

pub add_selection-returns-then-is_included : goal.add_selection-returns-then-is_included
add_selection-returns-then-is_included t c = λ right. on_ok_weaker c.add_field.result (λ adds.
    subst (λ (s : SelectionTree). AddsOne (environment c.args.stand_ins.now.variables.now) s (map selection_tree c.args.kept.now.selections.items) (map selection_tree c.add_field.new.kept.selections.items)) (sym (ap selection_tree c.in-Field.is ∙ tree_of_field c.in-Field.field))
    (adds (field_told (environment c.args.stand_ins.now.variables.now) c.in-Field.field c.as_slice.result.now c.is_included.result c.is_included.ensures c.as_slice.ensures.value ∙ c.if-is_included.true))) (c.add_field.ensures right)

pub add_selection-returns-else-is_included : goal.add_selection-returns-else-is_included
add_selection-returns-else-is_included t c = λ right.
    subst (λ (s : SelectionTree). AddsOne (environment c.args.stand_ins.now.variables.now) s (map selection_tree c.args.kept.now.selections.items) (map selection_tree c.args.kept.now.selections.items)) (sym (ap selection_tree c.in-Field.is ∙ tree_of_field c.in-Field.field))
    (none_added (environment c.args.stand_ins.now.variables.now) (field_tree c.in-Field.field) (map selection_tree c.args.kept.now.selections.items) (field_told (environment c.args.stand_ins.now.variables.now) c.in-Field.field c.as_slice.result.now c.is_included.result c.is_included.ensures c.as_slice.ensures.value ∙ c.if-is_included.false))

pub add_selection-returns-then-is_included-2 : goal.add_selection-returns-then-is_included-2
add_selection-returns-then-is_included-2 t c = λ right. on_ok_weaker c.add_spread.result (λ adds.
    subst (λ (s : SelectionTree). AddsOne (environment c.args.stand_ins.now.variables.now) s (map selection_tree c.args.kept.now.selections.items) (map selection_tree c.add_spread.new.kept.selections.items)) (sym (ap selection_tree c.in-Spread.is ∙ tree_of_spread c.in-Spread.name c.in-Spread.directives))
    (adds (environment c.args.stand_ins.now.variables.now) (map directive_tree c.in-Spread.directives.items) (spread_told (environment c.args.stand_ins.now.variables.now) (identifier_of c.in-Spread.name) c.in-Spread.directives.items c.as_slice-in-Spread.result.now c.is_included-in-Spread.result c.is_included-in-Spread.ensures c.as_slice-in-Spread.ensures.value ∙ c.if-is_included-2.true))) c.add_spread.ensures

pub add_selection-returns-else-is_included-2 : goal.add_selection-returns-else-is_included-2
add_selection-returns-else-is_included-2 t c = λ right.
    subst (λ (s : SelectionTree). AddsOne (environment c.args.stand_ins.now.variables.now) s (map selection_tree c.args.kept.now.selections.items) (map selection_tree c.args.kept.now.selections.items)) (sym (ap selection_tree c.in-Spread.is ∙ tree_of_spread c.in-Spread.name c.in-Spread.directives))
    (none_added (environment c.args.stand_ins.now.variables.now) (fragment_spread (identifier_of c.in-Spread.name) (map directive_tree c.in-Spread.directives.items)) (map selection_tree c.args.kept.now.selections.items)
    (spread_told (environment c.args.stand_ins.now.variables.now) (identifier_of c.in-Spread.name) c.in-Spread.directives.items c.as_slice-in-Spread.result.now c.is_included-in-Spread.result c.is_included-in-Spread.ensures c.as_slice-in-Spread.ensures.value ∙ c.if-is_included-2.false))

pub add_selection-returns-then-is_included-3 : goal.add_selection-returns-then-is_included-3
add_selection-returns-then-is_included-3 t c = λ right. on_ok_weaker c.add_inline.result (λ adds.
    subst (λ (s : SelectionTree). AddsOne (environment c.args.stand_ins.now.variables.now) s (map selection_tree c.args.kept.now.selections.items) (map selection_tree c.add_inline.new.kept.selections.items)) (sym (ap selection_tree c.in-Inline.is ∙ tree_of_inline c.in-Inline.on c.in-Inline.directives c.in-Inline.selections))
    (subst (λ (ss : List Selection). AddsOne (environment c.args.stand_ins.now.variables.now) (inline_fragment (maybe_identifier c.in-Inline.on) (map directive_tree c.in-Inline.directives.items) (set_tree ss)) (map selection_tree c.args.kept.now.selections.items) (map selection_tree c.add_inline.new.kept.selections.items)) c.as_slice-then-is_included-3.ensures.value
    (adds (map directive_tree c.in-Inline.directives.items) (inline_told (environment c.args.stand_ins.now.variables.now) (maybe_identifier c.in-Inline.on) c.in-Inline.directives.items c.as_slice-in-Inline.result.now (set_tree c.as_slice-then-is_included-3.result.now) c.is_included-in-Inline.result c.is_included-in-Inline.ensures c.as_slice-in-Inline.ensures.value ∙ c.if-is_included-3.true)))) (c.add_inline.ensures right)

pub add_selection-returns-else-is_included-3 : goal.add_selection-returns-else-is_included-3
add_selection-returns-else-is_included-3 t c = λ right.
    subst (λ (s : SelectionTree). AddsOne (environment c.args.stand_ins.now.variables.now) s (map selection_tree c.args.kept.now.selections.items) (map selection_tree c.args.kept.now.selections.items)) (sym (ap selection_tree c.in-Inline.is ∙ tree_of_inline c.in-Inline.on c.in-Inline.directives c.in-Inline.selections))
    (none_added (environment c.args.stand_ins.now.variables.now) (inline_fragment (maybe_identifier c.in-Inline.on) (map directive_tree c.in-Inline.directives.items) (set_tree c.in-Inline.selections.items)) (map selection_tree c.args.kept.now.selections.items)
    (inline_told (environment c.args.stand_ins.now.variables.now) (maybe_identifier c.in-Inline.on) c.in-Inline.directives.items c.as_slice-in-Inline.result.now (set_tree c.in-Inline.selections.items) c.is_included-in-Inline.result c.is_included-in-Inline.ensures c.as_slice-in-Inline.ensures.value ∙ c.if-is_included-3.false))

pub shorten_set-set-init : goal.shorten_set-set-init
shorten_set-set-init t c = λ right. set_begun (environment c.args.stand_ins.now.variables.now) c.args.selections.now c.new-kept.result.selections.items c.new-kept.ensures

pub shorten_set-set-preserved : goal.shorten_set-set-preserved
shorten_set-set-preserved t c = λ right. set_more (environment c.args.stand_ins.now.variables.now) c.args.selections.now c.set.selection-index c.selection-item.result c.set.kept.selections.items c.add_selection.new.kept.selections.items c.set-test.true c.selection-item.is (c.set.invariant right) (c.in_ok-add_selection.ensures right)

pub shorten_set-returns : goal.shorten_set-returns
shorten_set-returns t c = λ right. set_whole (environment c.args.stand_ins.now.variables.now) c.args.selections.now c.set.selection-index c.set.kept.selections.items _ c.set-test.false refl (c.set.invariant right)

pub add_field-returns : goal.add_field-returns
add_field-returns t c = λ right. on_ok_weaker c.keep.result (λ keeps. field_added (environment c.args.stand_ins.now.variables.now) c.args.field.now c.in_ok-field_with.field-0 c.as_slice.result.now c.in_ok-below.below.selections.items (map selection_tree c.args.kept.now.selections.items) (map selection_tree c.keep.new.self.selections.items)
    (c.in_ok-field_with.ensures right) c.as_slice.ensures.value (c.in_ok-below.ensures right) keeps) c.keep.ensures

pub add_inline-returns : goal.add_inline-returns
add_inline-returns t c = λ right. on_ok_weaker c.keep.result (λ keeps. inline_added (environment c.args.stand_ins.now.variables.now) c.args.on.now c.in_ok-copy_maybe_name.field-0 c.new.result c.in_ok-below.below.selections c.args.selections.now (map selection_tree c.args.kept.now.selections.items) (map selection_tree c.keep.new.self.selections.items)
    c.in_ok-copy_maybe_name.ensures c.new.ensures.items (c.in_ok-below.ensures right) keeps) c.keep.ensures
