use Rattle.std.proofs.Common.{◌≡◌, drop, map}
use Rattle.schema_rules.specs.First.{first_of}
use Rattle.gql_base.specs.parts.Trees.{directive_tree}
use Rattle.document_rules.specs.Rules.{condition_at}
use Rattle.document_rules.proofs.rules.directive_use.first_condition.Given as goal

abbrev pub invariant-loop-directive : goal.invariant-loop-directive
invariant-loop-directive l = first_of (condition_at) (map directive_tree (drop l.directive-index l.directives)) ≡ first_of (condition_at) (map directive_tree l.directives)
