use Rattle.std.proofs.Common.{length, sym, ap, ◌∙◌, map, ◌++◌, refl, arith}
use Rattle.std.proofs.lemmas.List.{drop_all}
use Rattle.std.proofs.lemmas.Result.{on_ok_weaker}
use Rattle.gql_base.specs.parts.Trees.{identifier_of, named_value, directive_tree}
use Rattle.gql_base.proofs.NameLaws.IndexLaws.{dropped_before}
use Rattle.document_reader.specs.Trees.{maybe_identifier, selection_tree, set_tree}
use Rattle.document_reader.proofs.ReadingSteps.{tree_of_field, tree_of_inline}
use Rattle.document_reader.proofs.PrintingSteps.{tree_of_spread, open_field}
use Rattle.operation_class.specs.RootParts.{root_parts, spread_part, waiting}
use Rattle.operation_class.proofs.PartSteps.{one_more, no_parts, inline_put, field_put, spread_put}
use Rattle.operation_class.proofs.root_parts.+parts.Goals as goal

pub put_in_front-loop-at-init : goal.put_in_front-loop-at-init
put_in_front-loop-at-init t c =
    sym (ap (λ l. l ++ waiting c.args.parts.now.items) (ap (λ xs. root_parts (set_tree xs)) (drop_all (length c.args.selections.now) c.args.selections.now (omega arith)) ∙ no_parts))

pub put_in_front-loop-at-preserved : goal.put_in_front-loop-at-preserved
put_in_front-loop-at-preserved t c =
    one_more c.args.selections.now _ c.loop-at.at c.index-selections-at.result _ _ _
    (dropped_before c.args.selections.now c.loop-at.at c.index-selections-at.result c.loop-at-test.true c.loop-at.auto.at c.index-selections-at.is) c.in_ok-put_one_in_front.ensures c.loop-at.invariant

pub put_one_in_front-returns-in_ok-push-in-Field : goal.put_one_in_front-returns-in_ok-push-in-Field
put_one_in_front-returns-in_ok-push-in-Field t c = let f = c.in-Field.field in
    field_put (selection_tree c.args.selection.now) f.alias f.name (map named_value f.arguments.items) (map directive_tree f.directives.items) (set_tree f.selections.items) c.args.parts.now.items c.push.new.self.items _
    (ap selection_tree c.in-Field.is ∙ tree_of_field f ∙ open_field f) c.in_ok-push-in-Field.ensures.items refl

pub put_one_in_front-returns-in_ok-push-in-Spread : goal.put_one_in_front-returns-in_ok-push-in-Spread
put_one_in_front-returns-in_ok-push-in-Spread t c =
    spread_put (selection_tree c.args.selection.now) (identifier_of c.in-Spread.name) (map directive_tree c.in-Spread.directives.items) c.args.parts.now.items c.push-in-Spread.new.self.items _
    (ap selection_tree c.in-Spread.is ∙ tree_of_spread c.in-Spread.name c.in-Spread.directives) c.in_ok-push-in-Spread.ensures.items (ap spread_part c.as_str.ensures)

pub put_one_in_front-returns-in-Inline : goal.put_one_in_front-returns-in-Inline
put_one_in_front-returns-in-Inline t c =
    on_ok_weaker c.put_in_front.result (inline_put (selection_tree c.args.selection.now) (maybe_identifier c.in-Inline.on) (map directive_tree c.in-Inline.directives.items) (set_tree c.in-Inline.selections.items) (set_tree c.as_slice.result.now) (waiting c.put_in_front.new.parts.items) (waiting c.args.parts.now.items)
    (ap selection_tree c.in-Inline.is ∙ tree_of_inline c.in-Inline.on c.in-Inline.directives c.in-Inline.selections) (ap set_tree c.as_slice.ensures.value)) c.put_in_front.ensures
