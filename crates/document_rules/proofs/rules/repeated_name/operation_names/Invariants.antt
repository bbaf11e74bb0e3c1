use Rattle.std.proofs.Common.{◌≡◌, ◌++◌, drop, map}
use Rattle.document_rules.specs.Parts.{operations_of}
use Rattle.document_rules.specs.Rules.{operation_names}
use Rattle.document_rules.specs.Views.{seen_name}
use Rattle.document_rules.proofs.rules.repeated_name.operation_names.Given as goal

abbrev pub invariant-loop-definition : goal.invariant-loop-definition
invariant-loop-definition l = map seen_name l.names.items ++ operation_names (operations_of (drop l.definition-index l.definitions)) ≡ operation_names (operations_of l.definitions)
