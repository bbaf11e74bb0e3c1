use Rattle.std.proofs.Common.{◌≡◌, drop, map}
use Rattle.schema_rules.specs.First.{first_of}
use Rattle.schema_model.specs.SchemaViews.{schema_data}
use Rattle.gql_base.specs.parts.Trees.{named_value}
use Rattle.document_rules.specs.Views.{meaning_data}
use Rattle.document_rules.specs.Rules.{unknown_argument_at}
use Rattle.document_rules.proofs.rules.unknown_argument.first_unknown.Given as goal

abbrev pub invariant-loop-argument : goal.invariant-loop-argument
invariant-loop-argument l = first_of (unknown_argument_at (schema_data l.schema) (meaning_data l.meaning)) (map named_value (drop l.argument-index l.arguments)) ≡ first_of (unknown_argument_at (schema_data l.schema) (meaning_data l.meaning)) (map named_value l.arguments)
