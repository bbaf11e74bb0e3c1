use Rattle.std.proofs.Common.{◌≡◌, drop, map}
use Rattle.gql_base.specs.parts.Trees.{directive_tree}
use Rattle.schema_rules.specs.DirectiveUses.{given_weight}
use Rattle.schema_rules.proofs.directive_uses.given_weight.Given as goal

-- What is left answers as the whole.
abbrev pub invariant-loop-directive : goal.invariant-loop-directive
invariant-loop-directive l = given_weight (map directive_tree (drop l.directive-index l.directives)) ≡ given_weight (map directive_tree l.directives)
