use Rattle.std.proofs.Common.{◌≡◌, drop, map}
use Rattle.std.specs.List.{position_from}
use Rattle.schema_rules.specs.Views.{item_tree}
use Rattle.schema_rules.specs.Repeated.{takes_built_in}
use Rattle.schema_rules.proofs.faults.repeated.first_built_in.Given as goal

-- What is left answers as the whole.
abbrev pub invariant-loop-at : goal.invariant-loop-at
invariant-loop-at l = position_from takes_built_in l.at (map item_tree (drop l.at l.items)) ≡ position_from takes_built_in 0 (map item_tree l.items)
