use Rattle.std.proofs.Common.{◌≡◌, [], drop, take, map}
use Rattle.gql_base.specs.parts.Trees.{directive_tree}
use Rattle.document_rules.specs.Rules.{first_misused}
use Rattle.document_rules.proofs.rules.directive_use.first_misused.Given as goal

abbrev pub invariant-loop-at : goal.invariant-loop-at
invariant-loop-at l = first_misused (map directive_tree (take l.at l.directives)) (map directive_tree (drop l.at l.directives)) ≡ first_misused [] (map directive_tree l.directives)
