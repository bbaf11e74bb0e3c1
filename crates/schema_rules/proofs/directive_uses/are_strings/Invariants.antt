use Rattle.std.proofs.Common.{◌≡◌, drop, map}
use Rattle.gql_base.specs.parts.Trees.{value_tree}
use Rattle.gql_base.specs.parts.Values.{values_from}
use Rattle.schema_rules.specs.DirectiveUses.{are_strings}
use Rattle.schema_rules.proofs.directive_uses.are_strings.Given as goal

-- What is left answers as the whole.
abbrev pub invariant-loop-value : goal.invariant-loop-value
invariant-loop-value l = are_strings (values_from (map value_tree (drop l.value-index l.values))) ≡ are_strings (values_from (map value_tree l.values))
