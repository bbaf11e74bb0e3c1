use Rattle.std.proofs.Common.{◌≡◌, drop, map}
use Rattle.schema_rules.specs.Views.{item_tree}
use Rattle.schema_rules.specs.First.{first_of}
use Rattle.schema_rules.specs.FloatScalar.{float_at}
use Rattle.schema_rules.proofs.faults.float_scalar.first_float.Given as goal

-- What is left answers as the whole.
abbrev pub invariant-loop-item : goal.invariant-loop-item
invariant-loop-item l = first_of float_at (map item_tree (drop l.item-index l.items)) ≡ first_of float_at (map item_tree l.items)
