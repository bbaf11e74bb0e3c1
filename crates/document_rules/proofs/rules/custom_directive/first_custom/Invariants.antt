use Rattle.std.proofs.Common.{◌≡◌, drop, map}
use Rattle.schema_rules.specs.First.{first_of}
use Rattle.schema_model.specs.SchemaViews.{schema_data}
use Rattle.gql_base.specs.parts.Trees.{directive_tree}
use Rattle.document_rules.specs.Rules.{custom_at}
use Rattle.document_rules.proofs.rules.custom_directive.first_custom.Given as goal

abbrev pub invariant-loop-directive : goal.invariant-loop-directive
invariant-loop-directive l = first_of (custom_at (schema_data l.schema)) (map directive_tree (drop l.directive-index l.directives)) ≡ first_of (custom_at (schema_data l.schema)) (map directive_tree l.directives)
