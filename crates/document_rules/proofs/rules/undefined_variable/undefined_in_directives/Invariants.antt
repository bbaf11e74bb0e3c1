use Rattle.std.proofs.Common.{◌≡◌, drop, map}
use Rattle.schema_rules.specs.First.{first_of}
use Rattle.gql_base.specs.parts.Trees.{directive_tree}
use Rattle.document_rules.specs.Views.{declared_tree}
use Rattle.document_rules.specs.Rules.{undefined_in_directive}
use Rattle.document_rules.proofs.rules.undefined_variable.undefined_in_directives.Given as goal

abbrev pub invariant-loop-directive : goal.invariant-loop-directive
invariant-loop-directive l = first_of (undefined_in_directive (map declared_tree l.variables.items.items)) (map directive_tree (drop l.directive-index l.directives)) ≡ first_of (undefined_in_directive (map declared_tree l.variables.items.items)) (map directive_tree l.directives)
