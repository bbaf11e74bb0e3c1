use Rattle.std.proofs.Common.{◌++◌, ◌∷◌, [], map, ap, ◌∙◌}
use Rattle.std.proofs.lemmas.List.{map_push}
use Rattle.plan_table.specs.Trees.{tree_of, elements_from}
use Rattle.static_cost.proofs.Fillings.{one_more_copy}
use Rattle.static_cost.proofs.filling.copies.Goals as goal

pub loop-preserved : goal.loop-preserved
loop-preserved c = ap (λ xs. elements_from (map tree_of xs)) c.in_ok-push.ensures.items
    ∙ ap elements_from (map_push tree_of c.loop.items.items c.in_ok-copy_tree.field-0 ∙ ap (λ x. map tree_of c.loop.items.items ++ x ∷ []) c.in_ok-copy_tree.ensures)
    ∙ one_more_copy (map tree_of c.loop.items.items) c.loop.counter (tree_of c.args.item.now) c.loop.invariant
