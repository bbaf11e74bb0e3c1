use Rattle.std.proofs.Common.{◌≡◌, drop, map}
use Rattle.gql_base.specs.names.Names.{has_name}
use Rattle.gql_base.specs.parts.Trees.{directive_tree}
use Rattle.document_rules.specs.Rules.{directive_name}
use Rattle.document_rules.proofs.rules.directive_use.has_directive.Given as goal

abbrev pub invariant-loop-directive : goal.invariant-loop-directive
invariant-loop-directive l = has_name directive_name (map directive_tree (drop l.directive-index l.directives)) l.name ≡ has_name directive_name (map directive_tree l.directives) l.name
