use Rattle.std.proofs.Common.{◌≡◌, ◌++◌, drop, map}
use Rattle.document_rules.specs.Parts.{fragments_of}
use Rattle.document_rules.specs.Views.{defined_fragment}
use Rattle.document_rules.proofs.indexes.defined_in.Given as goal

abbrev pub invariant-loop-definition : goal.invariant-loop-definition
invariant-loop-definition l = map defined_fragment l.defined.items ++ fragments_of (drop l.definition-index l.definitions) ≡ fragments_of l.definitions
