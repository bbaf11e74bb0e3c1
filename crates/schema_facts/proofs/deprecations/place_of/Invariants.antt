use Rattle.std.proofs.Common.{◌≡◌, drop, map}
use Rattle.gql_base.specs.parts.Trees.{directive_tree}
use Rattle.schema_facts.specs.Deprecations.{place_from}
use Rattle.schema_facts.proofs.deprecations.place_of.Given as goal

abbrev pub invariant-directives : goal.invariant-directives
invariant-directives l = place_from l.at l.name (map directive_tree (drop l.at l.directives)) ≡ place_from 0 l.name (map directive_tree l.directives)
