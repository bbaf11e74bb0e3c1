use Rattle.std.proofs.Common.{◌-◌, take, length}
use Rattle.document_reader.specs.Trees.{set_tree}
use Rattle.distinct_selections.specs.Alike.{AreAlike}
use Rattle.distinct_selections.proofs.alike.+alike.Given as goal

abbrev pub invariant-alike_sets-set : goal.invariant-alike_sets-set
invariant-alike_sets-set l = AreAlike (set_tree (take l.at l.selections)) (set_tree (take l.at l.others))

abbrev pub decreases-alike_sets-set : goal.decreases-alike_sets-set
decreases-alike_sets-set l = length l.selections - l.at
