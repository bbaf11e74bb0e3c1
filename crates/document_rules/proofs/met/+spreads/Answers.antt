use Rattle.std.proofs.Common.{length, sym, ap, ◌∙◌, map, ◌++◌}
use Rattle.std.proofs.Common.{arith}
use Rattle.std.proofs.lemmas.List.{drop_all}
use Rattle.std.proofs.lemmas.Result.{on_ok_weaker}
use Rattle.gql_base.specs.parts.Trees.{identifier_of, named_value, directive_tree}
use Rattle.gql_base.proofs.NameLaws.IndexLaws.{dropped_before}
use Rattle.document_reader.specs.Trees.{names_of, maybe_identifier, selection_tree, set_tree}
use Rattle.document_reader.proofs.ReadingSteps.{tree_of_field, tree_of_inline}
use Rattle.document_reader.proofs.PrintingSteps.{tree_of_spread, open_field}
use Rattle.document_rules.specs.Met.{spread_within, spreads_within}
use Rattle.document_rules.specs.Steps.{to_come}
use Rattle.document_rules.proofs.SpreadSteps.{spreads_more, no_spreads, in_below, below_of_field, below_of_inline, spread_pushed}
use Rattle.document_rules.proofs.met.+spreads.Goals as goal

pub add_spreads-loop-at-init : goal.add_spreads-loop-at-init
add_spreads-loop-at-init t c = sym (ap (λ l. l ++ to_come c.args.into.now.items) (ap (λ xs. spreads_within c.args.within (set_tree xs)) (drop_all (length c.args.selections.now) c.args.selections.now (omega arith)) ∙ no_spreads c.args.within))

pub add_spreads-loop-at-preserved : goal.add_spreads-loop-at-preserved
add_spreads-loop-at-preserved t c = spreads_more c.args.within c.args.selections.now _ c.loop-at.at c.index-selections-at.result _ _ _ (dropped_before c.args.selections.now c.loop-at.at c.index-selections-at.result c.loop-at-test.true c.loop-at.auto.at c.index-selections-at.is) c.in_ok-add_spreads_of.ensures c.loop-at.invariant

pub add_spreads_of-returns-in-Field : goal.add_spreads_of-returns-in-Field
add_spreads_of-returns-in-Field t c = let f = c.in-Field.field in
    on_ok_weaker c.add_spreads.result (in_below c.args.within (selection_tree c.args.selection.now) (set_tree f.selections.items) (set_tree c.as_slice.result.now) (to_come c.add_spreads.new.into.items) (to_come c.args.into.now.items)
    (below_of_field (selection_tree c.args.selection.now) (names_of f.alias f.name) (map named_value f.arguments.items) (map directive_tree f.directives.items) (set_tree f.selections.items) (ap selection_tree c.in-Field.is ∙ (tree_of_field f ∙ open_field f)))
    (ap set_tree c.as_slice.ensures.value)) c.add_spreads.ensures

pub add_spreads_of-returns-in-Inline : goal.add_spreads_of-returns-in-Inline
add_spreads_of-returns-in-Inline t c =
    on_ok_weaker c.add_spreads-in-Inline.result (in_below c.args.within (selection_tree c.args.selection.now) (set_tree c.in-Inline.selections.items) (set_tree c.as_slice-in-Inline.result.now) (to_come c.add_spreads-in-Inline.new.into.items) (to_come c.args.into.now.items)
    (below_of_inline (selection_tree c.args.selection.now) (maybe_identifier c.in-Inline.on) (map directive_tree c.in-Inline.directives.items) (set_tree c.in-Inline.selections.items) (ap selection_tree c.in-Inline.is ∙ tree_of_inline c.in-Inline.on c.in-Inline.directives c.in-Inline.selections))
    (ap set_tree c.as_slice-in-Inline.ensures.value)) c.add_spreads-in-Inline.ensures

pub add_spreads_of-returns-in_ok-push-in-Spread : goal.add_spreads_of-returns-in_ok-push-in-Spread
add_spreads_of-returns-in_ok-push-in-Spread t c = spread_pushed c.args.within (selection_tree c.args.selection.now) (identifier_of c.in-Spread.name) (map directive_tree c.in-Spread.directives.items) c.args.into.now.items c.push.new.self.items _
    (ap selection_tree c.in-Spread.is ∙ tree_of_spread c.in-Spread.name c.in-Spread.directives) c.in_ok-push-in-Spread.ensures.items (ap (spread_within c.args.within) c.as_str.ensures)
