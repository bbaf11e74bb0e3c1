use Rattle.std.proofs.Common.{◌≡◌, ◌++◌, drop, map}
use Rattle.schema_rules.specs.Views.{item_tree}
use Rattle.schema_rules.specs.Repeated.{key_of}
use Rattle.schema_rules.proofs.faults.repeated.keys_of.Given as goal

-- The keys so far, and then those of what is left.
abbrev pub invariant-loop-item : goal.invariant-loop-item
invariant-loop-item l = map (λ key. key.text) l.keys.items ++ map key_of (map item_tree (drop l.item-index l.items)) ≡ map key_of (map item_tree l.items)
