use Rattle.std.proofs.Common.{◌≡◌, drop, map}
use Rattle.gql_base.specs.parts.Trees.{named_value}
use Rattle.schema_facts.specs.Deprecations.{value_of_argument}
use Rattle.schema_facts.proofs.deprecations.value_of_argument.Given as goal

abbrev pub invariant-arguments : goal.invariant-arguments
invariant-arguments l = value_of_argument l.name (map named_value (drop l.argument-index l.arguments)) ≡ value_of_argument l.name (map named_value l.arguments)
