use Rattle.std.proofs.Common.{◌≡◌, ◌++◌, drop, map}
use Rattle.schema_rules.specs.Views.{item_tree}
use Rattle.schema_model.specs.Schemas.{directives_of}
use Rattle.schema_model.proofs.build.directives_of.Given as goal

-- Those so far, and then those of what is left.
abbrev pub invariant-loop-item : goal.invariant-loop-item
invariant-loop-item l = l.names.items ++ directives_of (map item_tree (drop l.item-index l.items)) ≡ directives_of (map item_tree l.items)
