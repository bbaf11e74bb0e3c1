use Rattle.std.proofs.Common.{◌≡◌, drop, map}
use Rattle.schema_rules.specs.Views.{item_tree}
use Rattle.schema_rules.specs.FloatScalar.{allows_floats}
use Rattle.schema_rules.proofs.faults.float_scalar.allows_floats.Given as goal

-- What is left answers as the whole.
abbrev pub invariant-loop-item : goal.invariant-loop-item
invariant-loop-item l = allows_floats (map item_tree (drop l.item-index l.items)) ≡ allows_floats (map item_tree l.items)
