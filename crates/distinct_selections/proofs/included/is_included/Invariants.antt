use Rattle.std.proofs.Common.{◌≡◌, drop, map}
use Rattle.std.specs.List.{list_any}
use Rattle.gql_base.specs.parts.Trees.{directive_tree}
use Rattle.variable_coercion.specs.Calls.{environment}
use Rattle.plan_model.specs.Collecting.{leaves_out}
use Rattle.distinct_selections.proofs.included.is_included.Given as goal

abbrev pub invariant-loop-directive : goal.invariant-loop-directive
invariant-loop-directive l = list_any (leaves_out (environment l.variables)) (map directive_tree (drop l.directive-index l.directives)) ≡ list_any (leaves_out (environment l.variables)) (map directive_tree l.directives)
