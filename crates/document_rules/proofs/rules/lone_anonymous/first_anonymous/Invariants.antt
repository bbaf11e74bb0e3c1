use Rattle.std.proofs.Common.{◌≡◌, drop}
use Rattle.schema_rules.specs.First.{first_of}
use Rattle.document_rules.specs.Parts.{operations_of}
use Rattle.document_rules.specs.Rules.{anonymous_at}
use Rattle.document_rules.proofs.rules.lone_anonymous.first_anonymous.Given as goal

abbrev pub invariant-loop-definition : goal.invariant-loop-definition
invariant-loop-definition l = first_of anonymous_at (operations_of (drop l.definition-index l.definitions)) ≡ first_of anonymous_at (operations_of l.definitions)
