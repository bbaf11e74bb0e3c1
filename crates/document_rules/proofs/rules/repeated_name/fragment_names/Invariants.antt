use Rattle.std.proofs.Common.{◌≡◌, ◌++◌, drop, map}
use Rattle.document_rules.specs.Parts.{fragments_of}
use Rattle.document_rules.specs.Rules.{name_of_fragment}
use Rattle.document_rules.specs.Views.{seen_name}
use Rattle.document_rules.proofs.rules.repeated_name.fragment_names.Given as goal

abbrev pub invariant-loop-definition : goal.invariant-loop-definition
invariant-loop-definition l = map seen_name l.names.items ++ map name_of_fragment (fragments_of (drop l.definition-index l.definitions)) ≡ map name_of_fragment (fragments_of l.definitions)
