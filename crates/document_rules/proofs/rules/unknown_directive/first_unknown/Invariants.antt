use Rattle.std.proofs.Common.{◌≡◌, drop, map}
use Rattle.schema_rules.specs.First.{first_of}
use Rattle.schema_model.specs.SchemaViews.{schema_data}
use Rattle.gql_base.specs.parts.Trees.{directive_tree}
use Rattle.document_rules.specs.Rules.{unknown_at}
use Rattle.document_rules.proofs.rules.unknown_directive.first_unknown.Given as goal

abbrev pub invariant-loop-directive : goal.invariant-loop-directive
invariant-loop-directive l = first_of (unknown_at (schema_data l.schema)) (map directive_tree (drop l.directive-index l.directives)) ≡ first_of (unknown_at (schema_data l.schema)) (map directive_tree l.directives)
