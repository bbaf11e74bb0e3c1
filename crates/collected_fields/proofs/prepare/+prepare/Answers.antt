use Rattle.std.proofs.Common.{◌∙◌, ◌++◌, Some, sym, ap, map, subst, length}
use Rattle.std.specs.Prelude.{option_map}
use Rattle.std.proofs.lemmas.List.{map_push, length-map}
use Rattle.std.proofs.lemmas.Result.{on_ok_weaker}
use Rattle.gql_base.specs.parts.Trees.{identifier_of, directive_tree}
use Rattle.document_reader.specs.Trees.{selection_tree, field_tree, maybe_identifier}
use Rattle.document_reader.proofs.ReadingSteps.{tree_of_field, tree_of_inline}
use Rattle.document_reader.proofs.PrintingSteps.{tree_of_spread}
use Rattle.schema_model.specs.Numbers.{type_number}
use Rattle.variable_coercion.specs.Calls.{environment}
use Rattle.collected_fields.specs.Drafts.{source_setting, AddsInlineTo}
use Rattle.collected_fields.specs.Prepared.{list_data, Adds, steps_of_inline}
use Rattle.collected_fields.specs.Steps.{step_data}
use Rattle.distinct_selections.proofs.IncludedSelections.{field_told, spread_told, inline_told}
use Rattle.collected_fields.proofs.PrepareLaws.{nothing_added, repeat_added, field_added, on_ok_both, inline_done, spread_done, list_added, made_none, made_more, made_whole}
use Rattle.collected_fields.proofs.prepare.+prepare.Goals as goal

pub add_field-returns-then-not-is_included-clause-adds : goal.add_field-returns-then-not-is_included-clause-adds
add_field-returns-then-not-is_included-clause-adds t c = λ knows. (
  nothing_added (source_setting c.args.source.now) (option_map type_number c.args.draft.now.parent) (map step_data c.args.draft.now.steps.items) (field_tree c.args.field.now) (map list_data c.args.lists.now.items)
      (field_told (environment c.args.source.now.planning.variables.now) c.args.field.now c.as_slice.result.now c.is_included.result c.is_included.ensures c.as_slice.ensures.value ∙ c.if-not-is_included.true),
  knows,
)

pub add_field-returns-then-repeats-clause-adds : goal.add_field-returns-then-repeats-clause-adds
add_field-returns-then-repeats-clause-adds t c = λ knows. (
  repeat_added (source_setting c.args.source.now) (option_map type_number c.args.draft.now.parent) (map step_data c.args.draft.now.steps.items) c.args.field.now (map list_data c.args.lists.now.items)
      (field_told (environment c.args.source.now.planning.variables.now) c.args.field.now c.as_slice.result.now c.is_included.result c.is_included.ensures c.as_slice.ensures.value ∙ c.if-not-is_included.false) (c.repeats.ensures c.if-repeats.true knows),
  knows,
)

pub add_field-returns-clause-adds : goal.add_field-returns-clause-adds
add_field-returns-clause-adds t c = on_ok_both c.keep.result (λ leaves steps knows. (
  field_added (source_setting c.args.source.now) (option_map type_number c.args.draft.now.parent) (map step_data c.args.draft.now.steps.items) c.args.field.now (map step_data c.keep.new.self.steps.items)
      (option_map type_number c.below_field-parent.result) c.as_slice-2.result.now c.in_ok-below.below (map list_data c.args.lists.now.items) (map list_data c.list_below.new.lists.items)
      (field_told (environment c.args.source.now.planning.variables.now) c.args.field.now c.as_slice.result.now c.is_included.result c.is_included.ensures c.as_slice.ensures.value ∙ c.if-not-is_included.false)
      c.below_field-parent.ensures c.as_slice-2.ensures.value c.in_ok-below.ensures steps,
  leaves knows,
)) c.keep.ensures.leaves c.keep.ensures.steps

pub add_inline-returns-in-None-clause-adds : goal.add_inline-returns-in-None-clause-adds
add_inline-returns-in-None-clause-adds t c = on_ok_weaker c.append.result (λ grown knows. inline_done (source_setting c.args.source.now) (option_map type_number c.args.draft.now.parent) (map step_data c.args.draft.now.steps.items) (maybe_identifier c.args.on.now) (map selection_tree c.args.selections.now)
    (option_map type_number c.below_inline-parent.result) (option_map type_number c.append.new.self.parent) (map step_data c.in_ok-steps.steps.items) (map step_data c.append.new.self.steps.items) (map list_data c.args.lists.now.items) (map list_data c.steps_of.new.lists.items) c.args.draft.now.leaves c.append.new.self.leaves
    c.in_ok-steps.ensures c.below_inline-parent.ensures
    (grown ∙ (ap (λ xs. map step_data c.args.draft.now.steps.items ++ map step_data xs) c.as_slice.ensures.value ∙ ap (λ on. map step_data c.args.draft.now.steps.items ++ steps_of_inline (source_setting c.args.source.now).schema (maybe_identifier on) (map step_data c.in_ok-steps.steps.items)) (sym c.in-None.is)))
    (ap (option_map type_number) c.append.ensures.parent) c.append.ensures.leaves knows) c.append.ensures.steps

pub add_inline-returns-clause-adds : goal.add_inline-returns-clause-adds
add_inline-returns-clause-adds t c = on_ok_weaker c.add_condition.result (λ grown knows. inline_done (source_setting c.args.source.now) (option_map type_number c.args.draft.now.parent) (map step_data c.args.draft.now.steps.items) (maybe_identifier c.args.on.now) (map selection_tree c.args.selections.now)
    (option_map type_number c.below_inline-parent.result) (option_map type_number c.add_condition.new.draft.parent) (map step_data c.in_ok-steps.steps.items) (map step_data c.add_condition.new.draft.steps.items) (map list_data c.args.lists.now.items) (map list_data c.steps_of.new.lists.items) c.args.draft.now.leaves c.add_condition.new.draft.leaves
    c.in_ok-steps.ensures c.below_inline-parent.ensures
    (grown ∙ (ap (λ xs. map step_data c.args.draft.now.steps.items ++ steps_of_inline (source_setting c.args.source.now).schema (maybe_identifier (Some c.in-Some.name)) (map step_data xs)) c.as_slice-in-Some.ensures.value ∙ ap (λ on. map step_data c.args.draft.now.steps.items ++ steps_of_inline (source_setting c.args.source.now).schema (maybe_identifier on) (map step_data c.in_ok-steps.steps.items)) (sym c.in-Some.is)))
    (ap (option_map type_number) c.add_condition.ensures.parent) c.add_condition.ensures.leaves knows) c.add_condition.ensures.adds

pub add_list-returns : goal.add_list-returns
add_list-returns t c = list_added (source_setting c.args.source.now) (option_map type_number c.args.parent) (map selection_tree c.args.selections.now) (map step_data c.in_ok-steps.steps.items) (map list_data c.args.lists.now.items) (map list_data c.steps_of.new.lists.items) (map list_data c.push.new.self.items) (length c.as_slice-number.result.now)
    c.in_ok-steps.ensures (ap (map list_data) c.in_ok-push.ensures.items ∙ map_push list_data c.steps_of.new.lists.items _) (ap length c.as_slice-number.ensures.value ∙ sym (length-map c.steps_of.new.lists.items list_data))

pub add_selection-returns-in-Field-clause-adds : goal.add_selection-returns-in-Field-clause-adds
add_selection-returns-in-Field-clause-adds t c = on_ok_weaker c.add_field.result (λ adds knows. let a = adds knows in
    (subst (λ x. Adds (source_setting c.args.source.now) (option_map type_number c.args.draft.now.parent) x (map list_data c.args.lists.now.items) (map list_data c.add_field.new.lists.items) (map step_data c.args.draft.now.steps.items) (map step_data c.add_field.new.draft.steps.items)) (sym (ap selection_tree c.in-Field.is ∙ tree_of_field c.in-Field.field)) a.0, a.1)) c.add_field.ensures.adds

pub add_selection-returns-then-is_included-clause-adds : goal.add_selection-returns-then-is_included-clause-adds
add_selection-returns-then-is_included-clause-adds t c = on_ok_weaker c.add_spread.result (λ grown knows.
    let a = spread_done (source_setting c.args.source.now) (option_map type_number c.args.draft.now.parent) (map step_data c.args.draft.now.steps.items) (identifier_of c.in-Spread.name) (map directive_tree c.in-Spread.directives.items) (option_map type_number c.add_spread.new.draft.parent) c.as_str.result.now (map step_data c.add_spread.new.draft.steps.items) (map list_data c.args.lists.now.items)
    c.args.draft.now.leaves c.add_spread.new.draft.leaves (spread_told (environment c.args.source.now.planning.variables.now) (identifier_of c.in-Spread.name) c.in-Spread.directives.items c.as_slice.result.now c.is_included.result c.is_included.ensures c.as_slice.ensures.value ∙ c.if-is_included.true) c.as_str.ensures grown (ap (option_map type_number) c.add_spread.ensures.parent) c.add_spread.ensures.leaves knows in
    (subst (λ x. Adds (source_setting c.args.source.now) (option_map type_number c.args.draft.now.parent) x (map list_data c.args.lists.now.items) (map list_data c.args.lists.now.items) (map step_data c.args.draft.now.steps.items) (map step_data c.add_spread.new.draft.steps.items)) (sym (ap selection_tree c.in-Spread.is ∙ tree_of_spread c.in-Spread.name c.in-Spread.directives)) a.0, a.1)) c.add_spread.ensures.adds

pub add_selection-returns-else-is_included-clause-adds : goal.add_selection-returns-else-is_included-clause-adds
add_selection-returns-else-is_included-clause-adds t c = λ knows. (
  subst (λ x. Adds (source_setting c.args.source.now) (option_map type_number c.args.draft.now.parent) x (map list_data c.args.lists.now.items) (map list_data c.args.lists.now.items) (map step_data c.args.draft.now.steps.items) (map step_data c.args.draft.now.steps.items)) (sym (ap selection_tree c.in-Spread.is ∙ tree_of_spread c.in-Spread.name c.in-Spread.directives))
      (nothing_added (source_setting c.args.source.now) (option_map type_number c.args.draft.now.parent) (map step_data c.args.draft.now.steps.items) _ (map list_data c.args.lists.now.items)
      (spread_told (environment c.args.source.now.planning.variables.now) (identifier_of c.in-Spread.name) c.in-Spread.directives.items c.as_slice.result.now c.is_included.result c.is_included.ensures c.as_slice.ensures.value ∙ c.if-is_included.false)),
  knows,
)

pub add_selection-returns-then-is_included-2-clause-adds : goal.add_selection-returns-then-is_included-2-clause-adds
add_selection-returns-then-is_included-2-clause-adds t c = on_ok_weaker c.add_inline.result (λ adds knows.
    let a = subst (λ ss. AddsInlineTo (source_setting c.args.source.now) (maybe_identifier c.in-Inline.on) (map selection_tree ss) (map list_data c.args.lists.now.items) (map list_data c.add_inline.new.lists.items) c.args.draft.now c.add_inline.new.draft) c.as_slice-then-is_included-2.ensures.value adds knows in (
      subst (λ x. Adds (source_setting c.args.source.now) (option_map type_number c.args.draft.now.parent) x (map list_data c.args.lists.now.items) (map list_data c.add_inline.new.lists.items) (map step_data c.args.draft.now.steps.items) (map step_data c.add_inline.new.draft.steps.items)) (sym (ap selection_tree c.in-Inline.is ∙ tree_of_inline c.in-Inline.on c.in-Inline.directives c.in-Inline.selections))
          (a.0 (map directive_tree c.in-Inline.directives.items) (inline_told (environment c.args.source.now.planning.variables.now) (maybe_identifier c.in-Inline.on) c.in-Inline.directives.items c.as_slice-in-Inline.result.now _ c.is_included-in-Inline.result c.is_included-in-Inline.ensures c.as_slice-in-Inline.ensures.value ∙ c.if-is_included-2.true)),
      a.1,
    )) c.add_inline.ensures.adds

pub add_selection-returns-else-is_included-2-clause-adds : goal.add_selection-returns-else-is_included-2-clause-adds
add_selection-returns-else-is_included-2-clause-adds t c = λ knows. (
  subst (λ x. Adds (source_setting c.args.source.now) (option_map type_number c.args.draft.now.parent) x (map list_data c.args.lists.now.items) (map list_data c.args.lists.now.items) (map step_data c.args.draft.now.steps.items) (map step_data c.args.draft.now.steps.items)) (sym (ap selection_tree c.in-Inline.is ∙ tree_of_inline c.in-Inline.on c.in-Inline.directives c.in-Inline.selections))
      (nothing_added (source_setting c.args.source.now) (option_map type_number c.args.draft.now.parent) (map step_data c.args.draft.now.steps.items) _ (map list_data c.args.lists.now.items)
      (inline_told (environment c.args.source.now.planning.variables.now) (maybe_identifier c.in-Inline.on) c.in-Inline.directives.items c.as_slice-in-Inline.result.now _ c.is_included-in-Inline.result c.is_included-in-Inline.ensures c.as_slice-in-Inline.ensures.value ∙ c.if-is_included-2.false)),
  knows,
)

pub steps_of-loop-selection-init : goal.steps_of-loop-selection-init
steps_of-loop-selection-init t c = record {
  made = made_none (source_setting c.args.source.now) (option_map type_number c.args.parent) (map list_data c.args.lists.now.items) (map step_data c.new-draft.result.steps.items) (ap (map step_data) c.new-draft.ensures.steps);
  knows = c.new-draft.ensures.leaves;
  parent = ap (option_map type_number) c.new-draft.ensures.parent;
}

pub steps_of-loop-selection-preserved : goal.steps_of-loop-selection-preserved
steps_of-loop-selection-preserved t c =
    let added = c.in_ok-add_selection.ensures.adds c.loop-selection.invariant.knows in
    record {
      made = made_more (source_setting c.args.source.now) (option_map type_number c.args.parent) (option_map type_number c.loop-selection.draft.parent) c.args.selections.now c.loop-selection.selection-index c.selection-item.result (map list_data c.args.lists.now.items) (map list_data c.loop-selection.lists.items) (map list_data c.add_selection.new.lists.items)
          (map step_data c.loop-selection.draft.steps.items) (map step_data c.add_selection.new.draft.steps.items) c.loop-selection-test.true c.selection-item.is c.loop-selection.invariant.parent c.loop-selection.invariant.made added.0;
      knows = added.1;
      parent = ap (option_map type_number) c.add_selection.ensures.parent ∙ c.loop-selection.invariant.parent;
    }

pub steps_of-returns : goal.steps_of-returns
steps_of-returns t c = made_whole (source_setting c.args.source.now) (option_map type_number c.args.parent) c.args.selections.now c.loop-selection.selection-index (map list_data c.args.lists.now.items) (map list_data c.loop-selection.lists.items) (map step_data c.loop-selection.draft.steps.items) c.loop-selection-test.false c.loop-selection.invariant.made
