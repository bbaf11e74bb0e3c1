use Rattle.std.proofs.Common.{arith, sym, ap, ◌∙◌, map, Ok, subst}
use Rattle.std.proofs.lemmas.Result.{err_from_is_err_and}
use Rattle.gql_base.specs.ways.Sources.{ahead, Reads}
use Rattle.gql_base.proofs.WayLaws.Loops.{loop_ends, loop_halts, loop_goes_on}
use Rattle.document_reader.specs.Trees.{selection_tree, set_tree}
use Rattle.document_reader.proofs.ReadingSteps.{selections_repeat, set_is_opened, tree_of_field, selection_is_field}
use Rattle.document_reader.proofs.selections.+sets.Goals as goal

pub selection-returns-clause-read : goal.selection-returns-clause-read
selection-returns-clause-read t c = selection_is_field c.args.levels (ahead c.args.source.now c.args.at) (sym c.is.ensures ∙ c.if-is.false) ∙ (c.in_ok-field.ensures.read ∙ ap (λ l. Ok (l, ahead c.args.source.now c.in_ok-field.end)) (sym (tree_of_field c.in_ok-field.field)))

pub selection_set-returns-clause-read : goal.selection_set-returns-clause-read
selection_set-returns-clause-read t c = subst (Reads c.args.source.now (λ x. (set_tree x.0.items, x.1)) c.opened_set.result) (sym (set_is_opened c.args.levels _)) c.opened_set.ensures.read

pub some_selections-returns-in_err-selection-clause-read : goal.some_selections-returns-in_err-selection-clause-read
some_selections-returns-in_err-selection-clause-read t c =
    let p = err_from_is_err_and c.from_residual-in_err-selection.result c.from_residual-in_err-selection.ensures.1 in
    rw (p.1, p.2) (loop_halts (selections_repeat c.args.levels) c.args.source.now c.in_err-selection.field-0.0 (map selection_tree c.rest.selections.items) _ _ c.rest.invariant.whole (sym c.is_other.ensures ∙ c.rest-test.true) c.in_err-selection.ensures.read)

pub some_selections-rest-preserved : goal.some_selections-rest-preserved
some_selections-rest-preserved t c = record {
  whole = loop_goes_on selection_tree (selections_repeat c.args.levels) c.rest.selections.items c.push-in-rest.new.self.items c.in_ok-selection.selection _ _ _ c.rest.invariant.whole (sym c.is_other.ensures ∙ c.rest-test.true) c.in_ok-selection.ensures.read c.in_ok-push-2.ensures.items;
  onward = omega (arith, c.rest.invariant.onward, c.in_ok-selection.ensures.within.0);
}

pub some_selections-returns-clause-read : goal.some_selections-returns-clause-read
some_selections-returns-clause-read t c = loop_ends (selections_repeat c.args.levels) (map selection_tree c.rest.selections.items) _ _ c.rest.invariant.whole (sym c.is_other.ensures ∙ c.rest-test.false)
