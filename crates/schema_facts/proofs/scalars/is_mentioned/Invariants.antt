use Rattle.std.proofs.Common.{◌≡◌, drop, map}
use Rattle.schema_rules.specs.Views.{item_tree}
use Rattle.schema_facts.specs.Facts.{is_mentioned}
use Rattle.schema_facts.proofs.scalars.is_mentioned.Given as goal

abbrev pub invariant-items : goal.invariant-items
invariant-items l = is_mentioned l.name (map item_tree (drop l.item-index l.items)) ≡ is_mentioned l.name (map item_tree l.items)
