use Rattle.std.proofs.Common.{◌≡◌, drop, map}
use Rattle.gql_base.specs.parts.Trees.{named_value}
use Rattle.schema_rules.specs.First.{first_of}
use Rattle.document_rules.specs.Rules.{misplaced_in_condition}
use Rattle.document_rules.specs.Views.{declared_tree}
use Rattle.document_rules.proofs.rules.variable_place.in_conditions.Given as goal

abbrev pub invariant-loop-argument : goal.invariant-loop-argument
invariant-loop-argument l = first_of (misplaced_in_condition (map declared_tree l.rule.variables.now.items.items)) (map named_value (drop l.argument-index l.arguments)) ≡ first_of (misplaced_in_condition (map declared_tree l.rule.variables.now.items.items)) (map named_value l.arguments)
