use Rattle.std.proofs.Common.{◌≡◌, drop, map}
use Rattle.schema_reader.specs.Trees.{definition_tree}
use Rattle.schema_facts.specs.Facts.{has_directive}
use Rattle.schema_facts.proofs.directives.has_directive.Given as goal

abbrev pub invariant-text : goal.invariant-text
invariant-text l = has_directive (map definition_tree (drop l.definition-index l.text)) l.name ≡ has_directive (map definition_tree l.text) l.name
