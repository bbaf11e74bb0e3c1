use Rattle.std.proofs.Common.{◌≡◌, drop, map}
use Rattle.schema_reader.specs.Trees.{definition_tree}
use Rattle.schema_facts.specs.Facts.{schema_description}
use Rattle.schema_facts.proofs.making.schema_description.Given as goal

abbrev pub invariant-definitions : goal.invariant-definitions
invariant-definitions l = schema_description (map definition_tree (drop l.definition-index l.definitions)) ≡ schema_description (map definition_tree l.definitions)
