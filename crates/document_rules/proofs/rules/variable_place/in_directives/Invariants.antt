use Rattle.std.proofs.Common.{◌≡◌, drop, map}
use Rattle.gql_base.specs.parts.Trees.{directive_tree}
use Rattle.schema_rules.specs.First.{first_of}
use Rattle.document_rules.specs.Rules.{misplaced_in_directive}
use Rattle.document_rules.specs.Views.{declared_tree}
use Rattle.document_rules.proofs.rules.variable_place.in_directives.Given as goal

abbrev pub invariant-loop-directive : goal.invariant-loop-directive
invariant-loop-directive l = first_of (misplaced_in_directive (map declared_tree l.rule.variables.now.items.items)) (map directive_tree (drop l.directive-index l.directives)) ≡ first_of (misplaced_in_directive (map declared_tree l.rule.variables.now.items.items)) (map directive_tree l.directives)
