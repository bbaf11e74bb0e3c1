use Rattle.std.proofs.Common.{◌≡◌, map}
use Rattle.response_model.specs.Filled.{repeated}
use Rattle.plan_table.specs.Trees.{tree_of, elements_from}
use Rattle.static_cost.proofs.filling.copies.Given as goal

abbrev pub invariant-loop : goal.invariant-loop
invariant-loop l = elements_from (map tree_of l.items.items) ≡ repeated l.counter (tree_of l.item)
