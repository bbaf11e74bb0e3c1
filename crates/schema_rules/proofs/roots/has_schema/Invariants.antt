use Rattle.std.proofs.Common.{◌≡◌, drop, map}
use Rattle.schema_rules.specs.Views.{item_tree}
use Rattle.std.specs.List.{list_any}
use Rattle.schema_rules.specs.Roots.{is_schema}
use Rattle.schema_rules.proofs.roots.has_schema.Given as goal

-- What is left answers as the whole.
abbrev pub invariant-loop-item : goal.invariant-loop-item
invariant-loop-item l = list_any is_schema (map item_tree (drop l.item-index l.items)) ≡ list_any is_schema (map item_tree l.items)
