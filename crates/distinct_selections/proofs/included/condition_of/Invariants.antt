use Rattle.std.proofs.Common.{◌≡◌, drop}
use Rattle.variable_coercion.specs.Calls.{environment}
use Rattle.distinct_selections.proofs.Truths.{truth_of_first}
use Rattle.distinct_selections.proofs.included.condition_of.Given as goal

abbrev pub invariant-loop-argument : goal.invariant-loop-argument
invariant-loop-argument l = truth_of_first (environment l.variables) (drop l.argument-index l.directive.arguments.items) ≡ truth_of_first (environment l.variables) l.directive.arguments.items
