use Rattle.std.proofs.Common.{◌-◌, take, map, length}
use Rattle.gql_base.specs.parts.Trees.{value_tree, named_value}
use Rattle.plan_model.specs.GivenAlike.{GiveAlike, AreGivenAlike}
use Rattle.distinct_selections.proofs.written.+written.Given as goal

abbrev pub invariant-alike_items-items : goal.invariant-alike_items-items
invariant-alike_items-items l = GiveAlike (map value_tree (take l.at l.items)) (map value_tree (take l.at l.others))

abbrev pub decreases-alike_items-items : goal.decreases-alike_items-items
decreases-alike_items-items l = length l.items - l.at

abbrev pub invariant-alike_arguments-arguments : goal.invariant-alike_arguments-arguments
invariant-alike_arguments-arguments l = AreGivenAlike (map named_value (take l.at l.arguments)) (map named_value (take l.at l.others))

abbrev pub decreases-alike_arguments-arguments : goal.decreases-alike_arguments-arguments
decreases-alike_arguments-arguments l = length l.arguments - l.at
